-- Vertices: what is read is the groups of the numbers of vertices within the limits.
use Rattle.std.specs.Prelude.{ℕ, zero, suc, ◌+◌, ◌≡◌, refl, List, [], ◌∷◌, ◌++◌, length}
use Rattle.std.proofs.Common.{sym, ap, ◌∙◌, subst, append_assoc, append-nil, arith, length-append}
use Rattle.layouts.specs.Limits as limit
use Rattle.layouts.specs.Layout.{Vertex, VertexWithin, EachWithin, none, more}
use Rattle.layout_packed.specs.Limits as written
use Rattle.layout_packed.specs.Groups.{groups_of}
use Rattle.layout_packed.specs.Packed.{vertex_numbers, vertices_numbers, joined}
use Rattle.layout_packed.specs.Workings.Reader.{Got, fault, got, and_then, number_from, meant, vertex_from, vertices_from}
use Rattle.layout_packed.specs.Laws.Number.{never, Spelt, number-spelt}
use Rattle.layout_packed.specs.Laws.Zigzag.{zigzag-meant, meant-most}

-- ---- steps

-- both of two steps got something
pub record Both {A B : Type 0} (g : Got A) (next : A → ℕ → List ℕ → Got B) (b : B) (end : ℕ) (rest : List ℕ) : Type 0 where
  pub a : A
  pub at : ℕ
  pub between : List ℕ
  pub one : g ≡ got a at between
  pub two : next a at between ≡ got b end rest

pub both : {A B : Type 0} (g : Got A) (next : A → ℕ → List ℕ → Got B) {b : B} {end : ℕ} {rest : List ℕ}
    → and_then g next ≡ got b end rest → Both g next b end rest
both (fault k) next e = never e
both (got a at r) next e = record { a = a; at = at; between = r; one = refl; two = e }

-- what holds for one result, its end and its rest holds for an equal one
pub carried : {A : Type 0} (P : A → ℕ → List ℕ → Type 0) {a b : A} {i j : ℕ} {s t : List ℕ} → got a i s ≡ got b j t → P a i s
    → P b j t
carried {A} P {a} {b} {i} {j} {s} {t} e h =
    let same : a ≡ b = cc in
    let here : i ≡ j = cc in
    let rest : s ≡ t = cc in
    subst (λ (x : A). P x j t) same (subst (λ (k : ℕ). P a k t) here (subst (λ (r : List ℕ). P a i r) rest h))

-- ---- numbers one after the other

pub joined-append : (ns ms : List ℕ) → joined (ns ++ ms) ≡ joined ns ++ joined ms
unfolding joined
joined-append [] ms = refl
joined-append (n ∷ ns) ms =
    ap (λ (l : List ℕ). groups_of n ++ l) (joined-append ns ms) ∙ sym (append_assoc (groups_of n) (joined ns) (joined ms))

-- the bytes are the groups of these numbers, and then the rest
pub record Joined (ns : List ℕ) (at : ℕ) (t : List ℕ) (next : ℕ) (rest : List ℕ) : Type 0 where
  pub spelt : t ≡ joined ns ++ rest
  pub ends : next ≡ at + length (joined ns)

pub joined-none : (at : ℕ) (t : List ℕ) → Joined [] at t at t
unfolding joined
joined-none at t = record { spelt = refl; ends = omega arith }

pub joined-one : {most at n next : ℕ} {t rest : List ℕ} → Spelt most at t n next rest → Joined (n ∷ []) at t next rest
unfolding joined
joined-one {n = n} s =
    record { spelt = rw (append-nil (groups_of n)) s.spelt; ends = rw (append-nil (groups_of n)) s.ends }

pub joined-join : {ns ms : List ℕ} {at mid next : ℕ} {t s rest : List ℕ} → Joined ns at t mid s → Joined ms mid s next rest
    → Joined (ns ++ ms) at t next rest
joined-join {ns} {ms} {at} {mid} {next} {t} {s} {rest} p q =
    let whole = joined-append ns ms in
    let long = length-append (joined ns) (joined ms) in
    record {
      spelt =
          p.spelt
          ∙ ap (λ (l : List ℕ). joined ns ++ l) q.spelt
          ∙ rw whole (sym (append_assoc (joined ns) (joined ms) rest));
      ends = rw whole (omega (arith, p.ends, q.ends));
    }

-- ---- a vertex

pub record VertexSpelt (v : Vertex) (at : ℕ) (t : List ℕ) (next : ℕ) (rest : List ℕ) : Type 0 where
  pub is : Joined (vertex_numbers v) at t next rest
  pub within : VertexWithin v

vertex-of : {x y b at a1 a2 next : ℕ} {t t1 t2 rest : List ℕ} → Spelt written.coordinate at t x a1 t1
    → Spelt written.coordinate a1 t1 y a2 t2
    → Spelt written.bulge a2 t2 b next rest
    → VertexSpelt (record { x = meant x; y = meant y; bulge = meant b }) at t next rest
vertex-of {x} {y} {b} sx sy sb =
    record {
      is =
          rw (zigzag-meant x, zigzag-meant y, zigzag-meant b)
          (joined-join (joined-one sx) (joined-join (joined-one sy) (joined-one sb)));
      within =
          record {
            x-within = meant-most x limit.coordinate sx.fits;
            y-within = meant-most y limit.coordinate sy.fits;
            bulge-within = meant-most b limit.bulge sb.fits;
          };
    }

pub vertex-spelt : (at : ℕ) (t : List ℕ) {v : Vertex} {next : ℕ} {rest : List ℕ} → vertex_from at t ≡ got v next rest
    → VertexSpelt v at t next rest
unfolding vertex_from
vertex-spelt at t e =
    let sx = both (number_from written.coordinate at t) _ e in
    let sy = both (number_from written.coordinate sx.at sx.between) _ sx.two in
    let sb = both (number_from written.bulge sy.at sy.between) _ sy.two in
    carried (λ v k r. VertexSpelt v at t k r) sb.two
    (vertex-of (number-spelt written.coordinate at t sx.one)
    (number-spelt written.coordinate sx.at sx.between sy.one)
    (number-spelt written.bulge sy.at sy.between sb.one))

-- ---- vertices

pub record VerticesSpelt (n : ℕ) (vs : List Vertex) (at : ℕ) (t : List ℕ) (next : ℕ) (rest : List ℕ) : Type 0 where
  pub is : Joined (vertices_numbers vs) at t next rest
  pub within : EachWithin vs
  pub count : length vs ≡ n

more-spelt : {n at mid next : ℕ} {t s rest : List ℕ} {v : Vertex} {vs : List Vertex} → VertexSpelt v at t mid s
    → VerticesSpelt n vs mid s next rest
    → VerticesSpelt (suc n) (v ∷ vs) at t next rest
more-spelt one later =
    record {
      is = joined-join one.is later.is;
      within = more one.within later.within;
      count = ap suc later.count;
    }

pub vertices-spelt : (n at : ℕ) (t : List ℕ) {vs : List Vertex} {next : ℕ} {rest : List ℕ}
    → vertices_from n at t ≡ got vs next rest
    → VerticesSpelt n vs at t next rest
unfolding vertices_from
vertices-spelt zero at t e =
    carried (λ vs k r. VerticesSpelt 0 vs at t k r) e (record { is = joined-none at t; within = none; count = refl })
vertices-spelt (suc n) at t e =
    let one = both (vertex_from at t) _ e in
    let later = both (vertices_from n one.at one.between) _ one.two in
    carried (λ vs k r. VerticesSpelt (suc n) vs at t k r) later.two
    (more-spelt (vertex-spelt at t one.one) (vertices-spelt n one.at one.between later.one))
