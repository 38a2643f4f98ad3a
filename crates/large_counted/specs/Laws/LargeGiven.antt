-- A listing of the mode of large arcs refuses with no other number than those of the old mode: check by check.
use Rattle.checks.specs.Checked.{Checked}
use Rattle.std.specs.Prelude.{◌≡◌, refl, Bool, true, false, cond, List, [], ◌∷◌, ◌++◌, ℕ, Float}
use Rattle.plane.specs.declared.pline_vertex.PlineVertex.{PlineVertex}
use Rattle.checks.specs.declared.fault.Place.{Place}
use Rattle.checks.specs.Each
use Rattle.checks.specs.Arc.{arc_chord}
use Rattle.checks.specs.First.{first as first_fault}
use Rattle.checks.specs.Refusal
use Rattle.paths.specs.Path.{vertex_count, vertex, trace as trace_of}
use Rattle.paths.specs.Shape.{shape}
use Rattle.paths.specs.Segments.{segment_count, segment_from}
use Rattle.cuts.specs.Cut.{is_large, bent, cut_vertex}
use Rattle.cuts.specs.LargeChecks.{
  halves_checks,
  segment_checks,
  of_vertex,
  of_segment,
  all_vertices,
  all_segments,
  large_path_checks,
}
use Rattle.listing_pairs.specs.declared.row.Row.{Row}
use Rattle.large_outcomes.specs.LargeOutcome.{large_room_check}
use Rattle.month.specs.Laws.Given.{
  Known,
  fine,
  refused,
  and,
  append,
  epsilon,
  finite,
  coordinate,
  trace,
  arc-chord,
  of-shape,
  each,
}
use Rattle.large_listings.specs.LargeListings.{mutual_large_checks}

large-bulge : (x : Float) (p : Place) → Known (Each.large_bulge x p)
unfolding Each.large_bulge Each.finite_then
large-bulge x p = and (finite x p) (refused _ Refusal.bulge p refl)

either : (b : Bool) (cs ds : List Checked) → Known (first_fault cs) → Known (first_fault ds) → Known (first_fault (cond b cs ds))
either true cs ds p q = p
either false cs ds p q = q

of_parts : (v1 v2 : PlineVertex) (owner index : ℕ) → Known (first_fault (segment_checks v1 v2 owner index))
unfolding segment_checks
of_parts v1 v2 owner index =
    let c = cut_vertex v1 v2 in
    either (is_large v1.bulge) (halves_checks v1 v2 owner index) (arc_chord v1 v2 owner index ∷ [])
    (and (coordinate c.x _) (and (coordinate c.y _)
    (and (arc-chord (bent v1) c owner index) (and (arc-chord c v2 owner index) fine))))
    (and (arc-chord v1 v2 owner index) fine)

module _ (path : List Float) (owner : ℕ) where
  of-vertex : (i : ℕ) → Known (first_fault (of_vertex path owner i))
  unfolding of_vertex
  of-vertex i =
      let v = vertex path i in
      and (coordinate v.x _)
      (and (coordinate v.y _) (and (large-bulge v.bulge _) (and (trace (trace_of path i) _) fine)))

  of-segment : (i : ℕ) → Known (first_fault (of_segment path owner i))
  unfolding of_segment
  of-segment i = let s = segment_from path i in of_parts s.v1 s.v2 owner i

  of-path : (closed : Bool) → Known (first_fault (large_path_checks path closed owner))
  of-path closed =
      append (all_vertices path owner) (all_segments path closed owner)
      (each (of_vertex path owner) of-vertex 0 (vertex_count path))
      (each (of_segment path owner) of-segment 0 (segment_count path closed))

module _ (first : List Float) (first_closed : Bool) (second : List Float) (second_closed : Bool) (eps : Float) where
  pub mutual-checks-known : Known (first_fault (mutual_large_checks first first_closed second second_closed eps))
  mutual-checks-known =
      let shapes : List Checked = Each.epsilon eps ∷ shape first 0 ∷ shape second 1 ∷ [] in
      append (shapes ++ large_path_checks first first_closed 0) (large_path_checks second second_closed 1)
      (append shapes (large_path_checks first first_closed 0)
      (and (epsilon eps) (and (of-shape first 0) (and (of-shape second 1) fine))) (of-path first 0 first_closed))
      (of-path second 1 second_closed)

pub room-known : (rows : List Row) (i : List ℕ) (p : List Float) → Known (large_room_check rows i p)
unfolding large_room_check
room-known rows i p = refused _ Refusal.rows _ refl
