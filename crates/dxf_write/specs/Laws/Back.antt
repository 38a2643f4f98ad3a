-- The vertices of a path, and of the same path without its traces; and what is written of a vertex is read as the same floats.
use Rattle.checks.specs.Checked.{Checked}
use Rattle.std.specs.Prelude.{◌≡◌, ℕ, zero, suc, ◌+◌, ◌*◌, ◌/◌, ◌%◌, ◌<◌, Bool, true, false, T, List, [], ◌∷◌, length, refl, Float, Err, Ok}
use Rattle.std.proofs.Common.{sym, ap, ◌∙◌, subst, true≢false, arith, add-one}
use Rattle.std.specs.Float.{binary64}
use Rattle.std.specs.Float.Ieee.{fits}
use Rattle.plane.specs.declared.pline_vertex.PlineVertex.{PlineVertex}
use Rattle.plane.specs.PlineVertex as vertices
use Rattle.checks.specs.declared.fault.Place.{Place}
use Rattle.checks.specs.Fault.{refuse}
use Rattle.checks.specs.First.{first}
use Rattle.checks.specs.Laws.Later.{later-fine}
use Rattle.paths.specs.Path.{vertex_count, number, vertex}
use Rattle.paths.specs.Path as paths
use Rattle.dxf_form.specs.Numbers.{Corner, value, trace, path_of}
use Rattle.dxf_write.specs.Millionths.{Found, none, found, is_none, millionths_of}
use Rattle.dxf_write.specs.Export.{millionths_or0, corner_at, corners_from, corners_of, of_texts}
use Rattle.dxf_write.specs.Untraced.{untraced}
use Rattle.dxf_write.specs.OnlyCandidate.{found-reads}

-- ---- vertex by vertex

more-vertices : (a b c t : Float) (rest : List Float) → vertex_count (a ∷ b ∷ c ∷ t ∷ rest) ≡ suc (vertex_count rest)
more-vertices a b c t rest = go (length rest)
  where
    go : (n : ℕ) → suc (suc (suc (suc n))) / 4 ≡ suc (n / 4)
    go n = omega arith

next_place : (i : ℕ) → suc i * 4 ≡ suc (suc (suc (suc (i * 4))))
next_place i = omega arith

next-place-to : (i j : ℕ) → suc i * 4 + j ≡ suc (suc (suc (suc (i * 4 + j))))
next-place-to i j = omega arith

next-vertex : (a b c t : Float) (rest : List Float) (i : ℕ) → vertex (a ∷ b ∷ c ∷ t ∷ rest) (suc i) ≡ vertex rest i
unfolding vertex
next-vertex a b c t rest i = rw (next-place-to i 1, next-place-to i 2, next_place i)

next-trace : (a b c t : Float) (rest : List Float) (i : ℕ) → paths.trace (a ∷ b ∷ c ∷ t ∷ rest) (suc i) ≡ paths.trace rest i
unfolding paths.trace
next-trace a b c t rest i = rw (next-place-to i 3)

none_of : (n i : ℕ) → n < 4 → i < n / 4 → ⊥
none_of n i h l = omega arith

pub untraced-vertex : (path : List Float) (i : ℕ) → i < vertex_count path → vertex (untraced path) i ≡ vertex path i
unfolding vertex
untraced-vertex [] i l = absurd (none_of 0 i (omega arith) l)
untraced-vertex (a ∷ []) i l = absurd (none_of 1 i (omega arith) l)
untraced-vertex (a ∷ b ∷ []) i l = absurd (none_of 2 i (omega arith) l)
untraced-vertex (a ∷ b ∷ c ∷ []) i l = absurd (none_of 3 i (omega arith) l)
untraced-vertex (a ∷ b ∷ c ∷ t ∷ rest) zero l = refl
untraced-vertex (a ∷ b ∷ c ∷ t ∷ rest) (suc i) l =
    next-vertex a b c trace (untraced rest) i
    ∙ untraced-vertex rest i (omega (arith, more-vertices a b c t rest))
    ∙ sym (next-vertex a b c t rest i)

pub untraced-trace : (path : List Float) (i : ℕ) → i < vertex_count path → paths.trace (untraced path) i ≡ trace
unfolding paths.trace
untraced-trace [] i l = absurd (none_of 0 i (omega arith) l)
untraced-trace (a ∷ []) i l = absurd (none_of 1 i (omega arith) l)
untraced-trace (a ∷ b ∷ []) i l = absurd (none_of 2 i (omega arith) l)
untraced-trace (a ∷ b ∷ c ∷ []) i l = absurd (none_of 3 i (omega arith) l)
untraced-trace (a ∷ b ∷ c ∷ t ∷ rest) zero l = refl
untraced-trace (a ∷ b ∷ c ∷ t ∷ rest) (suc i) l =
    next-trace a b c trace (untraced rest) i ∙ untraced-trace rest i (omega (arith, more-vertices a b c t rest))

pub untraced-long : (path : List Float) → length path % 4 ≡ 0 → length (untraced path) ≡ length path
untraced-long [] e = refl
untraced-long (a ∷ []) e = absurd (omega arith)
untraced-long (a ∷ b ∷ []) e = absurd (omega arith)
untraced-long (a ∷ b ∷ c ∷ []) e = absurd (omega arith)
untraced-long (a ∷ b ∷ c ∷ t ∷ rest) e =
    ap (λ (n : ℕ). suc (suc (suc (suc n)))) (untraced-long rest (less (length rest) e))
  where
    less : (n : ℕ) → suc (suc (suc (suc n))) % 4 ≡ 0 → n % 4 ≡ 0
    less n h = omega arith

-- ---- what is written is read as the same floats

pub record ReadBack (v : PlineVertex) : Type 0 where
  pub x-is : value (millionths_or0 (millionths_of v.x)) ≡ v.x
  pub y-is : value (millionths_or0 (millionths_of v.y)) ≡ v.y
  pub bulge-is : value (millionths_or0 (millionths_of v.bulge)) ≡ v.bulge

read_back : (x : Float) → T (fits binary64 x) → is_none (millionths_of x) ≡ false → value (millionths_or0 (millionths_of x)) ≡ x
read_back x f64 h = go (millionths_of x) refl h
  where
    go : (m : Found) → millionths_of x ≡ m → is_none m ≡ false → value (millionths_or0 m) ≡ x
    go none e h = absurd (true≢false h)
    go (found z) e h = found-reads x f64 z e

pub refuse-fine : (b : Bool) (n : ℕ) (p : Place) → refuse b n p ≡ Ok tt → b ≡ false
unfolding refuse
refuse-fine false n p e = refl
refuse-fine true n p e = let z : ◌≡◌ {A = ℕ} 1 0 = ap tagged e in absurd (omega arith)
  where
    tagged : Checked → ℕ
    tagged (Ok _) = 0
    tagged (Err f) = 1

pub vertex-back : (path : List Float) → ((k : ℕ) → T (fits binary64 (number path k))) → (i : ℕ) → first (of_texts path i) ≡ Ok tt
    → ReadBack (vertex path i)
unfolding of_texts vertex vertices.new
vertex-back path f64 i fine =
    let v = vertex path i in
    let a = (later-fine _ _).0 fine in
    let b = (later-fine _ _).0 a.1 in
    let c = (later-fine _ _).0 b.1 in
    record {
      x-is = read_back v.x (f64 (i * 4)) (refuse-fine _ _ _ a.0);
      y-is = read_back v.y (f64 (i * 4 + 1)) (refuse-fine _ _ _ b.0);
      bulge-is = read_back v.bulge (f64 (i * 4 + 2)) (refuse-fine _ _ _ c.0);
    }

next-corner : (a b c t : Float) (rest : List Float) (i : ℕ) → corner_at (a ∷ b ∷ c ∷ t ∷ rest) (i + 1) ≡ corner_at rest i
unfolding corner_at
next-corner a b c t rest i = rw (add-one i, next-vertex a b c t rest i)

next-corners : (a b c t : Float) (rest : List Float) (i k : ℕ)
    → corners_from (a ∷ b ∷ c ∷ t ∷ rest) (i + 1) k ≡ corners_from rest i k
next-corners a b c t rest i zero = refl
next-corners a b c t rest i (suc k) =
    ap (λ (v : Corner). v ∷ corners_from (a ∷ b ∷ c ∷ t ∷ rest) (i + 1 + 1) k) (next-corner a b c t rest i)
    ∙ ap (λ (l : List Corner). corner_at rest i ∷ l) (next-corners a b c t rest (i + 1) k)

pub path-back : (path : List Float) → ((i : ℕ) → i < vertex_count path → ReadBack (vertex path i))
    → path_of (corners_of path) ≡ untraced path
unfolding corner_at vertex vertices.new
path-back [] back = refl
path-back (a ∷ []) back = refl
path-back (a ∷ b ∷ []) back = refl
path-back (a ∷ b ∷ c ∷ []) back = refl
path-back (a ∷ b ∷ c ∷ t ∷ rest) back =
    let p : List Float = a ∷ b ∷ c ∷ t ∷ rest in
    let n = vertex_count rest in
    let v = back 0 (omega (arith, more-vertices a b c t rest)) in
    let later_ones = path-back rest (λ i l. subst ReadBack (next-vertex a b c t rest i)
    (back (suc i) (omega (arith, more-vertices a b c t rest)))) in
    ap (λ (k : ℕ). path_of (corners_from p 0 k)) (more-vertices a b c t rest)
    ∙ ap (λ (l : List Corner). path_of (corner_at p 0 ∷ l)) (next-corners a b c t rest 0 n)
    ∙ ap (λ (l : List Float). value (corner_at p 0).x ∷ value (corner_at p 0).y ∷ value (corner_at p 0).bulge ∷ trace ∷ l)
    later_ones
    ∙ ap (λ (f : Float). f ∷ value (corner_at p 0).y ∷ value (corner_at p 0).bulge ∷ trace ∷ untraced rest) v.x-is
    ∙ ap (λ (f : Float). a ∷ f ∷ value (corner_at p 0).bulge ∷ trace ∷ untraced rest) v.y-is
    ∙ ap (λ (f : Float). a ∷ b ∷ f ∷ trace ∷ untraced rest) v.bulge-is
