-- Request 8: two segments of the same trace above 0 are passed over. They belong to one track, whose parts are joined on purpose.
use Rattle.std.specs.Prelude.{Bool, cond, not, ◌&&◌, List, ℕ, Float}
use Rattle.floats.specs.Ops.{◌≈◌, ◌≻◌, f0}
use Rattle.paths.specs.Segments.{segment_from}
use Rattle.listing_pairs.specs.declared.row.Look.{Look}
use Rattle.listing_pairs.specs.declared.row.Look.TheVariants.{Skipped}
use Rattle.listing_pairs.specs.Order.{Pair, those}

-- Two traces are the same and above 0. They are compared by value: -0 is 0, so it is not above it.
abbrev pub same_trace : Float → Float → Bool
same_trace t u = (t ≈ u) && (t ≻ f0)

-- segment i of the first path and segment j of the second are of one trace
unfoldable pub one_trace : List Float → List Float → Pair → Bool
one_trace first second p = same_trace (segment_from first p.i).trace (segment_from second p.j).trace

-- what a pair gives in a listing, if `look` says what it gives without traces: a pair of one trace is skipped
unfoldable pub traced : List Float → List Float → (ℕ → ℕ → Look) → ℕ → ℕ → Look
traced first second look i j = cond (one_trace first second (record { i = i; j = j })) Skipped (look i j)

-- the pairs that are not of one trace
abbrev pub traced_pairs : List Float → List Float → List Pair → List Pair
traced_pairs first second ps = those (λ p. not (one_trace first second p)) ps
