-- The numbers of a layout settle the layout.
use Rattle.std.specs.Prelude.{ℕ, ◌≡◌, refl, List, [], ◌∷◌, ◌++◌, length, ℤ}
use Rattle.std.proofs.Common.{sym, ap, ◌∙◌, append-nil, arith}
use Rattle.layouts.specs.Layout.{Vertex, Layout}
use Rattle.layout_packed.specs.Groups.{zigzag}
use Rattle.layout_packed.specs.Packed.{vertices_numbers, numbers_of}
use Rattle.layout_packed.specs.Workings.Reader.{meant}
use Rattle.layout_packed.specs.Laws.Zigzag.{meant-zigzag}

pub zigzag-apart : (z w : ℤ) → zigzag z ≡ zigzag w → z ≡ w
zigzag-apart z w e = sym (meant-zigzag z) ∙ ap meant e ∙ meant-zigzag w

same-vertex : (v u : Vertex) → v.x ≡ u.x → v.y ≡ u.y → v.bulge ≡ u.bulge → v ≡ u
same-vertex v u ex ey eb = go v.x v.y v.bulge ex ey eb
  where
    go : (a b c : ℤ) → a ≡ u.x → b ≡ u.y → c ≡ u.bulge → ◌≡◌ {A = Vertex} (record { x = a; y = b; bulge = c }) u
    go a b c ea eb ec = rw (ea, eb, ec)

same_layout : (l k : Layout) → l.first ≡ k.first → l.second ≡ k.second → l ≡ k
same_layout l k ef es = go l.first l.second ef es
  where
    go : (a b : List Vertex) → a ≡ k.first → b ≡ k.second → ◌≡◌ {A = Layout} (record { first = a; second = b }) k
    go a b ea eb = rw (ea, eb)

record Parts (vs us : List Vertex) (r s : List ℕ) : Type 0 where
  pub vertices : vs ≡ us
  pub rest : r ≡ s

vertices-apart : (vs us : List Vertex) (r s : List ℕ) → length vs ≡ length us → vertices_numbers vs ++ r ≡ vertices_numbers us ++ s
    → Parts vs us r s
vertices-apart [] [] r s n e = record { vertices = refl; rest = e }
vertices-apart [] (u ∷ us) r s n e = absurd (omega arith)
vertices-apart (v ∷ vs) [] r s n e = absurd (omega arith)
vertices-apart (v ∷ vs) (u ∷ us) r s n e =
    let x : zigzag v.x ≡ zigzag u.x = cc in
    let y : zigzag v.y ≡ zigzag u.y = cc in
    let b : zigzag v.bulge ≡ zigzag u.bulge = cc in
    let tail : vertices_numbers vs ++ r ≡ vertices_numbers us ++ s = cc in
    let later = vertices-apart vs us r s (omega arith) tail in
    let one = same-vertex v u (zigzag-apart _ _ x) (zigzag-apart _ _ y) (zigzag-apart _ _ b) in
    record { vertices = cc; rest = later.rest }

pub numbers_apart : (l k : Layout) → numbers_of l ≡ numbers_of k → l ≡ k
numbers_apart l k e =
    let n : length l.first ≡ length k.first = cc in
    let m : length l.second ≡ length k.second = cc in
    let both : vertices_numbers l.first ++ vertices_numbers l.second
    ≡ vertices_numbers k.first ++ vertices_numbers k.second =
    cc in
    let one = vertices-apart l.first k.first (vertices_numbers l.second) (vertices_numbers k.second) n both in
    let alone = append-nil (vertices_numbers l.second) ∙ one.rest ∙ sym (append-nil (vertices_numbers k.second)) in
    let two = vertices-apart l.second k.second [] [] m alone in
    same_layout l k one.vertices two.vertices
