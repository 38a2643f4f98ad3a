-- What each case of the code's answers says of what the definition has read; and the vertices that are left, one by one. The
-- functions here that go over vertices use it, and so can those above.
use Rattle.std.specs.Prelude.{ℕ, suc, ◌+◌, ◌-◌, ◌≤◌, ◌<◌, ◌≡◌, List, [], ◌∷◌, drop}
use Rattle.std.specs.Prelude.{Option, Some, None, Result, Ok, Err}
use Rattle.std.specs.Option.{ok_or}
use Rattle.std.specs.Result.{IsErr, IsErrAnd}
use Rattle.std.proofs.Math.Path.{sym, ap}
use Rattle.std.proofs.lemmas.Result.{err_from_is_err_and}
use Rattle.std.proofs.Common.{◌∙◌, arith}
use Rattle.layouts.specs.Layout.{Vertex, whole_vertex}
use Rattle.layout_packed.specs.Workings.Reader.{Got, fault, got, and_then, stuck, over, passed, vertex_from, vertices_from}
use Rattle.layout_packed.specs.Workings.Shown.{shown_number, shown_vertex, shown_place, Fitting, Shaped}
use Rattle.layout_packed.specs.declared.number.Number.{Number}
use Rattle.layout_packed.specs.declared.Fault.{Fault}
use Rattle.layouts.specs.declared.vertex.Reading.{Reading}
use Rattle.layouts.specs.declared.shape.Shape.{Shape}

-- ---- what a `?` hands on

pub raised : {A E : Type 0} {r : Result A E} {f : E} → IsErr r × IsErrAnd r (λ (e : E). e ≡ f) → r ≡ Err f
raised {r = r} h =
    let p = err_from_is_err_and r h.1 in
    p.1 ∙ ap Err p.2

-- if nothing was there, what stands in its place
pub raised-none : {A B E : Type 0} {o : Option A} {e f : E} {r : Result B E} → o ≡ None
    → ◌≡◌ {A = Result A E} (Err e) (ok_or o f) → IsErr r × IsErrAnd r (λ (d : E). d ≡ e) → r ≡ Err f
raised-none {A} {B} {E} {o} {e} {f} none was h =
    let same : ◌≡◌ {A = Result A E} (Err e) (Err f) = rw none at was in
    let is : e ≡ f = cc in
    raised h ∙ ap Err is

-- ---- a number

module _ (bytes : List ℕ) (start : ℕ) {g : Got ℕ} {r : Option Number} (is : shown_number bytes start r ≡ g) where
  pub no_number : r ≡ None → g ≡ fault start
  unfolding shown_number
  no_number e = sym is ∙ ap (shown_number bytes start) e

  pub a-number : {n : Number} → r ≡ Some n → g ≡ got n.value n.next (drop n.next bytes)
  unfolding shown_number
  a-number e = sym is ∙ ap (shown_number bytes start) e

-- ---- a vertex

module _ (bytes : List ℕ) {g : Got Vertex} {r : Result Reading Fault} (is : shown_vertex bytes r ≡ g) where
  pub no-vertex : {f : Fault} → r ≡ Err f → g ≡ fault f.offset
  unfolding shown_vertex
  no-vertex e = sym is ∙ ap (shown_vertex bytes) e

  pub a-vertex : {v : Reading} → r ≡ Ok v → g ≡ got (whole_vertex v.corner) v.next (drop v.next bytes)
  unfolding shown_vertex
  a-vertex e = sym is ∙ ap (shown_vertex bytes) e

-- ---- a place

stuck-fault : {A : Type 0} (g : Got A) {k : ℕ} → passed g ≡ stuck k → g ≡ fault k
stuck-fault (fault j) {k} e = let same : j ≡ k = cc in ap fault same
stuck-fault (got a at rest) e = let z : ◌≡◌ {A = ℕ} 0 1 = cc in absurd (omega arith)

pub record Over {A : Type 0} (g : Got A) (next : ℕ) (rest : List ℕ) : Type 0 where
  pub a : A
  pub is : g ≡ got a next rest

over-got : {A : Type 0} (g : Got A) {next : ℕ} {rest : List ℕ} → passed g ≡ over next rest → Over g next rest
over-got (fault k) e = let z : ◌≡◌ {A = ℕ} 0 1 = cc in absurd (omega arith)
over-got (got a at r) {next} {rest} e =
    let here : at ≡ next = cc in
    let same : r ≡ rest = cc in
    record { a = a; is = rw (here, same) }

module _ (bytes : List ℕ) (g : Got (List Vertex)) {r : Result ℕ Fault} (is : shown_place bytes r ≡ passed g) where
  pub no_place : {f : Fault} → r ≡ Err f → g ≡ fault f.offset
  unfolding shown_place
  no_place e = stuck-fault g (sym is ∙ ap (shown_place bytes) e)

  pub a-place : {next : ℕ} → r ≡ Ok next → Over g next (drop next bytes)
  unfolding shown_place
  a-place e = over-got g (sym is ∙ ap (shown_place bytes) e)

-- ---- a shape

pub fits-of : (bytes : List ℕ) {s : Result Shape Fault} {at : Shape} → Shaped bytes s → s ≡ Ok at → Fitting bytes at
fits-of bytes shaped e = rw e at shaped

-- ---- the vertices that are left, at i of n

left : (n i : ℕ) → i < n → n - i ≡ suc (n - (i + 1))
left n i h = omega arith

none_left : (n i : ℕ) → n ≤ i → n - i ≡ 0
none_left n i h = omega arith

module _ (n i at : ℕ) (t : List ℕ) where
  pub vertices-end : n ≤ i → vertices_from (n - i) at t ≡ got [] at t
  unfolding vertices_from
  vertices-end h = rw (none_left n i h)

  module _ (inside : i < n) where
    pub vertices-fault : {k : ℕ} → vertex_from at t ≡ fault k → vertices_from (n - i) at t ≡ fault k
    unfolding vertices_from
    vertices-fault e = rw (left n i inside, e)

    pub vertices-more : {v : Vertex} {next : ℕ} {rest : List ℕ} → vertex_from at t ≡ got v next rest
        → vertices_from (n - i) at t ≡ and_then (vertices_from (n - (i + 1)) next rest) (λ vs k r. got (v ∷ vs) k r)
    unfolding vertices_from
    vertices-more e = rw (left n i inside, e)
