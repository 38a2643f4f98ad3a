-- The quick test of a path's vertices in the mode of large arcs: if all are inside their limits, by comparisons alone, the check
-- finds no fault in them.
use Rattle.std.specs.Prelude.{◌≡◌, refl, ◌⊎◌, Bool, true, false, cond, not, ◌&&◌, List, ℕ, ◌+◌, ◌≤◌, ◌<◌, T, Float, Ok}
use Rattle.std.proofs.Common.{sym, subst, inl, inr, eq-or-lt_of_le, arith}
use Rattle.std.specs.Float.Ieee.Fits.{and_l, and_r}
use Rattle.floats.specs.Ops.{◌≈◌, f0}
use Rattle.plane.specs.declared.pline_vertex.PlineVertex.{PlineVertex}
use Rattle.checks.specs.First.{first}
use Rattle.checks.specs.Limit
use Rattle.checks.specs.Number.{no_trace}
use Rattle.checks.specs.Laws.Fine.{not-denied}
use Rattle.checks.specs.Laws.Traces.{zero-is-trace}
use Rattle.checks.specs.Workings.Inside.{inside, of-coordinate, of-large-bulge}
use Rattle.paths.specs.Path.{vertex_count, vertex, trace}
use Rattle.paths.specs.Laws.Along.{fine-all}
use Rattle.cuts.specs.LargeChecks.{traced_checks, of_vertex, all_vertices}
use Rattle.cuts.specs.Laws.Fine.{TracedFine, traced-listed}

abbrev pub vertex_inside : Float → Float → Float → Float → Bool
vertex_inside x y bulge trace =
    let inside =
    (inside Limit.coordinate x && inside Limit.coordinate y) && inside Limit.large_bulge bulge in
    cond (trace ≈ f0) inside (inside && not (no_trace trace))

-- ---- one vertex
numbers-fine : (x y bulge t : Float)
    → T ((inside Limit.coordinate x && inside Limit.coordinate y) && inside Limit.large_bulge bulge)
    → no_trace t ≡ false → TracedFine x y bulge t
numbers-fine x y bulge t h e =
    let at_x = inside Limit.coordinate x in
    let at_y = inside Limit.coordinate y in
    let b = inside Limit.large_bulge bulge in
    let point = and_l (at_x && at_y) b h in
    record {
      point = record { at_x = of-coordinate x (and_l at_x at_y point); at_y = of-coordinate y (and_r at_x at_y point) };
      bulge = of-large-bulge bulge (and_r (at_x && at_y) b h);
      trace = e;
    }

all-passed : (x y bulge t : Float) (owner index : ℕ) → T (vertex_inside x y bulge t)
    → first (traced_checks x y bulge t owner index) ≡ Ok tt
all-passed x y bulge t owner index h = (traced-listed x y owner bulge t index).1 (go (t ≈ f0) refl h)
  where
    denied : (b : Bool) → T (not b) → b ≡ false
    denied true h = absurd h
    denied false h = refl

    go : (zero : Bool) → (t ≈ f0) ≡ zero
        → T (cond zero ((inside Limit.coordinate x && inside Limit.coordinate y) && inside Limit.large_bulge bulge)
        (((inside Limit.coordinate x && inside Limit.coordinate y) && inside Limit.large_bulge bulge) && not (no_trace t)))
        → TracedFine x y bulge t
    go true e h = numbers-fine x y bulge t h (zero-is-trace t e)
    go false e h =
        let all = (inside Limit.coordinate x && inside Limit.coordinate y) && inside Limit.large_bulge bulge in
        numbers-fine x y bulge t (and_l all (not (no_trace t)) h) (denied (no_trace t) (and_r all (not (no_trace t)) h))

-- ---- a path
abbrev pub Inside : PlineVertex → Float → Type 0
Inside v t = T (vertex_inside v.x v.y v.bulge t)

-- the vertices below i are inside
abbrev pub InsideBelow : List Float → ℕ → Type 0
InsideBelow path i = (j : ℕ) → j < i → Inside (vertex path j) (trace path j)

-- a yes says that all vertices are inside
pub record IfYes (path : List Float) (r : Bool) : Type 0 where
  pub all : T r → InsideBelow path (vertex_count path)

pub none_yet : (path : List Float) → InsideBelow path 0
none_yet path j l = absurd (omega arith)

pub one_more : (path : List Float) (i : ℕ) (v : PlineVertex) (t : Float) (b : Bool)
    → b ≡ vertex_inside v.x v.y v.bulge t
    → v ≡ vertex path i → t ≡ trace path i
    → not b ≡ false → InsideBelow path i → InsideBelow path (i + 1)
one_more path i v t b is read with h below j l = go (eq-or-lt_of_le (close j i l))
  where
    close : (j i : ℕ) → j < i + 1 → j ≤ i
    close j i l = omega arith

    here : Inside (vertex path i) (trace path i)
    here = subst (Inside (vertex path i)) with (subst (λ (u : PlineVertex). Inside u t) read (subst T is (not-denied b h)))

    go : (j ≡ i) ⊎ (j < i) → Inside (vertex path j) (trace path j)
    go (inl e) = subst (λ (k : ℕ). Inside (vertex path k) (trace path k)) (sym e) here
    go (inr less) = below j less

pub inside-fine : (path : List Float) (owner : ℕ) → InsideBelow path (vertex_count path) → Ok tt ≡ first (all_vertices path owner)
unfolding of_vertex
inside-fine path owner all =
    sym (fine-all (of_vertex path owner) (vertex_count path)
    (λ i l. let v = vertex path i in all-passed v.x v.y v.bulge (trace path i) owner i (all i l)))
