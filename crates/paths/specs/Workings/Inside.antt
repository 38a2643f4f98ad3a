-- The quick test of a path's vertices: if all are inside their limits, by comparisons alone, the check finds no fault in them.
use Rattle.std.specs.Prelude.{◌≡◌, ◌⊎◌, Bool, false, not, List, ℕ, ◌+◌, ◌≤◌, ◌<◌, T, Float, Ok}
use Rattle.std.proofs.Common.{sym, subst, inl, inr, eq-or-lt_of_le, arith}
use Rattle.plane.specs.declared.pline_vertex.PlineVertex.{PlineVertex}
use Rattle.checks.specs.First.{first}
use Rattle.checks.specs.Laws.Fine.{not-denied}
use Rattle.checks.specs.Workings.Inside.{traced_inside, all-passed}
use Rattle.paths.specs.Path.{vertex_count, vertex, trace}
use Rattle.paths.specs.Check.{of_vertex, vertex_checks}
use Rattle.paths.specs.Laws.Along.{fine-all}

abbrev pub Inside : PlineVertex → Float → Type 0
Inside v t = T (traced_inside v.x v.y v.bulge t)

-- the vertices below i are inside
abbrev pub InsideBelow : List Float → ℕ → Type 0
InsideBelow path i = (j : ℕ) → j < i → Inside (vertex path j) (trace path j)

-- a yes says that all vertices are inside
pub record IfYes (path : List Float) (r : Bool) : Type 0 where
  pub all : T r → InsideBelow path (vertex_count path)

pub none_yet : (path : List Float) → InsideBelow path 0
none_yet path j l = absurd (omega arith)

pub one_more : (path : List Float) (i : ℕ) (v : PlineVertex) (t : Float) (b : Bool)
    → b ≡ traced_inside v.x v.y v.bulge t
    → v ≡ vertex path i → t ≡ trace path i
    → not b ≡ false → InsideBelow path i → InsideBelow path (i + 1)
one_more path i v t b is read with h below j l = go (eq-or-lt_of_le (close j i l))
  where
    close : (j i : ℕ) → j < i + 1 → j ≤ i
    close j i l = omega arith

    here : Inside (vertex path i) (trace path i)
    here = subst (Inside (vertex path i)) with (subst (λ (u : PlineVertex). Inside u t) read (subst T is (not-denied b h)))

    go : (j ≡ i) ⊎ (j < i) → Inside (vertex path j) (trace path j)
    go (inl e) = subst (λ (k : ℕ). Inside (vertex path k) (trace path k)) (sym e) here
    go (inr less) = below j less

pub inside-fine : (path : List Float) (owner : ℕ) → InsideBelow path (vertex_count path) → Ok tt ≡ first (vertex_checks path owner)
unfolding of_vertex
inside-fine path owner all =
    sym (fine-all (of_vertex path owner) (vertex_count path)
    (λ i l. let v = vertex path i in all-passed v.x v.y v.bulge (trace path i) owner i (all i l)))
