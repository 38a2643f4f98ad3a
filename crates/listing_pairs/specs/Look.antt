-- What a pair of segments gives in a listing: the answer of `PlineSeg.pline_seg`, the Rust's `pline_seg_intr`, and the row that it
-- makes. A pair of one path that meets only at vertices it shares makes none. A listing takes these by traces: a pair of one
-- trace is skipped.
use Rattle.std.specs.Prelude.{Bool, cond, List, ℕ, Float}
use Rattle.crossing.specs.PlineSeg.{pline_seg}
use Rattle.paths.specs.Segments.{segment_from, segment_count}
use Rattle.listing_pairs.specs.declared.row.Look.{Look}
use Rattle.listing_pairs.specs.declared.row.Look.TheVariants.{Nothing}
use Rattle.listing_pairs.specs.Row.{look_of}
use Rattle.listing_pairs.specs.Neighbours.{at_joint}
use Rattle.listing_pairs.specs.Traces.{traced}

-- segment i of the first path and segment j of the second
unfoldable pub look : List Float → List Float → Float → ℕ → ℕ → Look
look first second epsilon i j =
    let v = segment_from first i in
    let u = segment_from second j in
    look_of i j (pline_seg v.v1 v.v2 u.v1 u.v2 epsilon)

-- segments i and j of one path, of n segments
unfoldable pub self_look_of : ℕ → List Float → Bool → Float → ℕ → ℕ → Look
self_look_of n path closed epsilon i j =
    let v = segment_from path i in
    let u = segment_from path j in
    let met = pline_seg v.v1 v.v2 u.v1 u.v2 epsilon in
    cond (at_joint path closed n epsilon i j met) Nothing (look_of i j met)

-- of as many as the path has
abbrev pub self_look : List Float → Bool → Float → ℕ → ℕ → Look
self_look path closed = self_look_of (segment_count path closed) path closed

-- ---- in a listing
abbrev pub traced_look : List Float → List Float → Float → ℕ → ℕ → Look
traced_look first second epsilon = traced first second (look first second epsilon)

abbrev pub traced_self_look : List Float → Bool → Float → ℕ → ℕ → Look
traced_self_look path closed epsilon = traced path path (self_look path closed epsilon)
