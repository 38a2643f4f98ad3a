-- The paths of a layout within the limits pass every check of a listing but those of chords and of rows. So a layout's listing is
-- refused with 5 or 8 only.
use Rattle.checks.specs.Checked.{Checked}
use Rattle.std.specs.Prelude.{◌≡◌, refl, ◌⊎◌, Bool, not, cond, List, [], ◌∷◌, ◌++◌, ℕ, zero, suc, ◌+◌, ◌*◌, ◌%◌, ◌≤◌, ◌<◌, length, get_or, Float, Err, Ok}
use Rattle.std.proofs.Common.{sym, ap, ◌∙◌, subst, inl, inr, arith, le-ltb, eq-eqb}
use Rattle.std.proofs.Math.Bool.{true, false}
use Rattle.std.specs.Float.{nan, inf, fin}
use Rattle.std.specs.Float.Ieee.{of_bits, of_fields, is_nan, lt}
use Rattle.std.specs.Float.Ieee.Exact.{HasValue}
use Rattle.std.specs.Float.Ieee.Order.{le_of_values}
use Rattle.floats.specs.F64
use Rattle.plane.specs.PlineVertex.{new, bulge_is_zero}
use Rattle.checks.specs.declared.fault.Item.TheVariants.{Chord}
use Rattle.checks.specs.declared.fault.Place.{Place}
use Rattle.checks.specs.declared.fault.Fault.{Fault}
use Rattle.checks.specs.Fault.{at, refuse, later}
use Rattle.checks.specs.First.{first as first_fault}
use Rattle.checks.specs.Number.{is_infinite, not_finite, is_whole, no_trace}
use Rattle.checks.specs.Arc.{arc_chord}
use Rattle.checks.specs.Each
use Rattle.checks.specs.Edges.{powers}
use Rattle.checks.specs.Limit
use Rattle.checks.specs.Refusal
use Rattle.checks.specs.Laws.Chains.{first-append, VertexFine, TracedFine}
use Rattle.checks.specs.Laws.Fine.{Within}
use Rattle.paths.specs.Path.{most_vertices, vertex_count, vertex, trace}
use Rattle.paths.specs.Segments.{segment_count, segment_from}
use Rattle.paths.specs.Shape.{shape}
use Rattle.paths.specs.PathRefusals as table
use Rattle.paths.specs.Check.{along, of_vertex, of_segment, vertex_checks, arc_checks, path_checks}
use Rattle.paths.specs.Laws.Along.{fine-all}
use Rattle.paths.specs.Laws.Fine.{vertex-fine}
use Rattle.layouts.specs.Limits as limit
use Rattle.layouts.specs.Layout as layouts
use Rattle.layouts.specs.Layout.{Vertex, VertexWithin, EachWithin, none, more, Layout}
use Rattle.layouts.specs.Numbers as numbers
use Rattle.layouts.specs.Numbers.{path_of}
use Rattle.layouts.specs.Exact.{coordinate-exact, bulge-exact}
use Rattle.listing_pairs.specs.declared.row.Row.{Row}
use Rattle.listing_pairs.specs.Look.{traced_look}
use Rattle.listing_pairs.specs.Order.{mutual_pairs}
use Rattle.listing_pairs.specs.Rows.{rows_of, looked_at}
use Rattle.listing_outcomes.specs.Outcome.{room_check, listed_of, outcome}
use Rattle.listing_calls.specs.Listing.{mutual_checks, mutual_listing}
use Rattle.layout_listing.specs.Answer.{epsilon, no_indices, no_points, listing}
use Rattle.layout_listing.specs.Laws.Widths.{path-long, as_many}

-- ---- a check that is fine, or whose refusal is 5 or 8

abbrev pub FiveOrEight : ℕ → Type 0
FiveOrEight n = (n ≡ Refusal.chord) ⊎ (n ≡ Refusal.rows)

record Only (c : Checked) : Type 0 where
  pub says : (f : Fault) → c ≡ Err f → FiveOrEight f.number

same-fault : {f g : Fault} → ◌≡◌ {A = Checked} (Err f) (Err g) → f ≡ g
same-fault e = cc

never : {f : Fault} → ◌≡◌ {A = Checked} (Ok tt) (Err f) → ⊥
never e = let z : ◌≡◌ {A = ℕ} 0 1 = cc in omega (arith, z)

only-fine : {c : Checked} → c ≡ Ok tt → Only c
only-fine e = record { says = λ f b. absurd (never (sym e ∙ b)) }

only-refuse : (test : Bool) (n : ℕ) (p : Place) → FiveOrEight n → Only (refuse test n p)
unfolding refuse
only-refuse true n p h = record { says = λ f e. subst (λ (g : Fault). FiveOrEight g.number) (same-fault e) h }
only-refuse false n p h = only-fine refl

only-later : (a b : Checked) → Only a → Only b → Only (later a b)
unfolding later
only-later (Ok _) b p q = q
only-later (Err f) b p q = p

only-append : (cs ds : List Checked) → Only (first_fault cs) → Only (first_fault ds) → Only (first_fault (cs ++ ds))
only-append cs ds p q = subst Only (sym (first-append cs ds)) (only-later (first_fault cs) (first_fault ds) p q)

only-along : (checks : ℕ → List Checked) → ((i : ℕ) → Only (first_fault (checks i))) → (i k : ℕ)
    → Only (first_fault (along checks i k))
only-along checks each i zero = only-fine refl
only-along checks each i (suc k) = only-append (checks i) (along checks (i + 1) k) (each i) (only-along checks each (i + 1) k)

-- ---- the numbers of a vertex

within-limit : (most x : Float) (s : Bool) (a c k d : ℕ) → 0 < c → 0 < d → HasValue x s a c → HasValue most false k d
    → a * d ≤ k * c → Within most x
unfolding F64.abs
within-limit most nan s a c k d C D v w h = absurd v
within-limit most (inf t) s a c k d C D v w h = absurd v
within-limit most (fin t m e) s a c k d C D v w h =
    record { number = tt; small = le_of_values (fin false m e) most a c k d C D (refl, v.1) w h }

coordinate-value : HasValue Limit.coordinate false limit.coordinate 1
coordinate-value = subst (λ (x : Float). HasValue x false limit.coordinate 1) (sym powers.coordinate) (refl, refl)

bulge-value : HasValue Limit.bulge false 1 1
bulge-value = subst (λ (x : Float). HasValue x false 1 1) (sym powers.bulge) (refl, refl)

trace-passes : no_trace numbers.trace ≡ false
unfolding no_trace is_whole of_bits of_fields lt
trace-passes = refl

numbers-fine : (v : Vertex) → VertexWithin v
    → VertexFine (numbers.coordinate v.x) (numbers.coordinate v.y) (numbers.bulge v.bulge)
numbers-fine v w =
    record {
      point = record {
        at_x = within-limit _ _ _ _ _ _ _ (omega arith) (omega arith) (coordinate-exact v.x w.x-within) coordinate-value
            (omega (arith, w.x-within));
        at_y = within-limit _ _ _ _ _ _ _ (omega arith) (omega arith) (coordinate-exact v.y w.y-within) coordinate-value
            (omega (arith, w.y-within));
      };
      bulge = within-limit _ _ _ _ _ _ _ (omega arith) (omega arith) (bulge-exact v.bulge w.bulge-within) bulge-value
          (omega (arith, w.bulge-within));
    }

-- the numbers of vertex i, if it is not the first
next-number : (v : Vertex) (vs : List Vertex) (i k : ℕ) → get_or (path_of (v ∷ vs)) (suc i * 4 + k) nan ≡ get_or (path_of vs) (i * 4 + k) nan
next-number v vs i k = let e : suc i * 4 + k ≡ suc (suc (suc (suc (i * 4 + k)))) = omega arith in rw e refl

next_start : (v : Vertex) (vs : List Vertex) (i : ℕ) → get_or (path_of (v ∷ vs)) (suc i * 4) nan ≡ get_or (path_of vs) (i * 4) nan
next_start v vs i = let e : suc i * 4 ≡ suc (suc (suc (suc (i * 4)))) = omega arith in rw e refl

each-vertex : (vs : List Vertex) → EachWithin vs → (i : ℕ) → i < length vs
    → (let path = path_of vs in
    TracedFine (get_or path (i * 4) nan) (get_or path (i * 4 + 1) nan) (get_or path (i * 4 + 2) nan) (get_or path (i * 4 + 3) nan))
each-vertex [] none i h = absurd (omega arith)
each-vertex (v ∷ vs) (more w ws) zero h = record { vertex = numbers-fine v w; trace = trace-passes }
each-vertex (v ∷ vs) (more w ws) (suc i) h =
    rw (next_start v vs i, next-number v vs i 1, next-number v vs i 2, next-number v vs i 3)
    (each-vertex vs ws i (omega arith))

-- ---- the checks of a listing

module _ (vs : List Vertex) (owner : ℕ) where
  vertex-passes : EachWithin vs → (i : ℕ) → i < vertex_count (path_of vs) → first_fault (of_vertex (path_of vs) owner i) ≡ Ok tt
  unfolding vertex trace new
  vertex-passes ws i h = (vertex-fine (path_of vs) owner i).1 (each-vertex vs ws i (omega (arith, h, as_many vs)))

  segment-only : (i : ℕ) → Only (first_fault (of_segment (path_of vs) owner i))
  unfolding of_segment arc_chord Each.chord
  segment-only i = let s = segment_from (path_of vs) i in go (bulge_is_zero s.v1) _
    where
      go : (line short : Bool)
          → Only (later (cond line (Ok tt) (refuse short Refusal.chord (at owner i Chord))) (Ok tt))
      go true short = only-later (Ok tt) (Ok tt) (only-fine refl) (only-fine refl)
      go false short = only-later _ (Ok tt) (only-refuse short Refusal.chord (at owner i Chord) (inl refl)) (only-fine refl)

  path-only : EachWithin vs → Only (first_fault (path_checks (path_of vs) false owner))
  path-only ws =
      only-append (vertex_checks (path_of vs) owner) (arc_checks (path_of vs) false owner)
      (only-fine (fine-all (of_vertex (path_of vs) owner) (vertex_count (path_of vs)) (vertex-passes ws)))
      (only-along (of_segment (path_of vs) owner) segment-only 0 (segment_count (path_of vs) false))

  shape-passes : length vs ≤ limit.vertices → shape (path_of vs) owner ≡ Ok tt
  shape-passes few =
      let whole : length (path_of vs) % 4 ≡ 0 = omega (arith, path-long vs) in
      (table.shape (path_of vs) owner).fine.1 (
        ap not (eq-eqb (length (path_of vs) % 4) 0 whole),
        (le-ltb most_vertices (vertex_count (path_of vs)) (omega (arith, few, as_many vs)), tt),
      )

epsilon-passes : Each.epsilon epsilon ≡ Ok tt
unfolding Each.epsilon refuse not_finite is_infinite is_nan lt of_bits
epsilon-passes = refl

checks-only : (l : Layout) → layouts.Within l
    → Only (first_fault (mutual_checks (path_of l.first) false (path_of l.second) false epsilon))
checks-only l w =
    let first = path_of l.first in
    let second = path_of l.second in
    let front : List Checked = Each.epsilon epsilon ∷ shape first 0 ∷ shape second 1 ∷ [] in
    only-append (front ++ path_checks first false 0) (path_checks second false 1)
    (only-append front (path_checks first false 0)
    (only-later _ _ (only-fine epsilon-passes)
    (only-later _ _ (only-fine (shape-passes l.first 0 w.first_count))
    (only-later _ _ (only-fine (shape-passes l.second 1 w.second-count)) (only-fine refl))))
    (path-only l.first 0 w.first-each))
    (path-only l.second 1 w.second-each)

room-only : (rows : List Row) → Only (later (room_check rows no_indices no_points) (Ok tt))
unfolding room_check
room-only rows = only-later _ (Ok tt) (only-refuse _ Refusal.rows _ (inr refl)) (only-fine refl)

to-bad : (c : Checked) (rows : List Row) (n : ℕ) (f : Fault) → (listed_of c rows n no_indices no_points).answer ≡ Err f → c ≡ Err f
to-bad (Ok _) rows n f e = let z : ◌≡◌ {A = ℕ} 0 1 = cc in absurd (omega (arith, z))
to-bad (Err g) rows n f e = let same : g ≡ f = cc in ap Err same

pub five-or-eight : (l : Layout) → layouts.Within l → (f : Fault)
    → (listing (path_of l.first) (path_of l.second)).answer ≡ Err f → FiveOrEight f.number
unfolding listing mutual_listing outcome
five-or-eight l w f e =
    let first = path_of l.first in
    let second = path_of l.second in
    let look = traced_look first second epsilon in
    let ps = mutual_pairs (segment_count first false) (segment_count second false) in
    let rows = rows_of look ps in
    let checks = mutual_checks first false second false epsilon in
    (only-append checks (room_check rows no_indices no_points ∷ []) (checks-only l w) (room-only rows)
    ).says f (to-bad _ rows (looked_at look ps) f e)
