-- How two segments meet in the mode of large arcs, by request 11: each segment is itself or its two halves, and the pair's own
-- definition is asked of each part of the first with each part of the second. The first segment's parts are outermost.
use Rattle.checks.specs.Checked.{Checked}
use Rattle.std.specs.Prelude.{ℕ, ◌*◌, ◌≡◌, cond, ◌||◌, List, [], ◌∷◌, ◌++◌, ltb, length, Float, Err, Ok, Result as Answer}
use Rattle.std.proofs.lemmas.List.Edits.{sets}
use Rattle.float_laws.specs.Flat.{flat}
use Rattle.plane.specs.declared.pline_vertex.PlineVertex.{PlineVertex}
use Rattle.checks.specs.Each
use Rattle.checks.specs.First.{first}
use Rattle.checks.specs.Lists.{point_checks}
use Rattle.arcs.specs.declared.pline_seg_intr.PlineSegIntr.{PlineSegIntr}
use Rattle.crossing.specs.PlineSeg.{pline_seg}
use Rattle.crossing.specs.PlineSegIntr.{class_of, point1_of, point2_of}
use Rattle.cuts.specs.Cut.{is_large, bent, cut_vertex}
use Rattle.cuts.specs.LargeChecks.{vertex_checks, segment_checks}
use Rattle.checks.specs.declared.call.CallError.TheVariants.{NoRoom, Refused}
use Rattle.checks.specs.declared.call.CallError.{CallError}
use Rattle.checks.specs.declared.fault.Fault.{Fault}

-- ---- the checks, in the pair call's order: all numbers, then the arcs
abbrev pub large_pair_checks : PlineVertex → PlineVertex → PlineVertex → PlineVertex → Float → List Checked
large_pair_checks v1 v2 u1 u2 pos_equal_eps =
    (Each.epsilon pos_equal_eps ∷ [])
    ++ vertex_checks v1.x v1.y v1.bulge 0 0
    ++ point_checks v2.x v2.y 0 1
    ++ vertex_checks u1.x u1.y u1.bulge 1 0
    ++ point_checks u2.x u2.y 1 1
    ++ segment_checks v1 v2 0 0
    ++ segment_checks u1 u2 1 0

-- ---- the parts of a segment
-- half 0 is the segment itself, 1 and 2 are its halves
pub record Part : Type 0 where
  pub half : ℕ
  pub start : PlineVertex
  pub end : PlineVertex

abbrev pub parts_of : PlineVertex → PlineVertex → List Part
parts_of v1 v2 =
    cond (is_large v1.bulge)
    (record { half = 1; start = bent v1; end = cut_vertex v1 v2 }
    ∷ record { half = 2; start = cut_vertex v1 v2; end = v2 }
    ∷ [])
    (record { half = 0; start = v1; end = v2 } ∷ [])

-- ---- the results
pub record Result : Type 0 where
  pub v-half : ℕ
  pub u-half : ℕ
  pub met : PlineSegIntr

abbrev pub result : Float → Part → Part → Result
result pos_equal_eps v u =
    record { v-half = v.half; u-half = u.half; met = pline_seg v.start v.end u.start u.end pos_equal_eps }

-- each part of the first with each part of the second
abbrev pub results_of : PlineVertex → PlineVertex → PlineVertex → PlineVertex → Float → List Result
results_of v1 v2 u1 u2 pos_equal_eps =
    flat (λ (v : Part). flat (λ (u : Part). result pos_equal_eps v u ∷ []) (parts_of u1 u2)) (parts_of v1 v2)

-- three words and four floats each: both halves and the class; x1, y1, x2, y2, +0 where the class has no such point
abbrev pub words_a_result : ℕ
words_a_result = 3

abbrev pub floats_a_result : ℕ
floats_a_result = 4

abbrev pub words_of : Result → List ℕ
words_of r = r.v-half ∷ r.u-half ∷ class_of r.met ∷ []

abbrev pub floats_of : Result → List Float
floats_of r = (point1_of r.met).x ∷ (point1_of r.met).y ∷ (point2_of r.met).x ∷ (point2_of r.met).y ∷ []

-- ---- the answer, and what the lent slices hold
-- room for four results is asked for always
abbrev pub most_results : ℕ
most_results = 4

-- how many results there are, or why none
abbrev pub LargePair : Type 0
LargePair = Answer ℕ CallError

abbrev pub refusal : Fault → LargePair
refusal fault = Err (Refused fault)

pub record LargeOutcome : Type 0 where
  pub answer : LargePair
  pub results : List ℕ
  pub points : List Float

-- a refusal leaves both slices unchanged; otherwise the results are written to the front
abbrev pub by_checks : Checked → List Result → List ℕ → List Float → LargeOutcome
by_checks (Err fault) found results points =
    record { answer = Err (Refused fault); results = results; points = points }
by_checks (Ok _) found results points =
    record {
      answer = Ok (length found);
      results = sets results 0 (flat words_of found);
      points = sets points 0 (flat floats_of found);
    }

unfoldable pub large_pair :
    PlineVertex → PlineVertex → PlineVertex → PlineVertex → Float → List ℕ → List Float → LargeOutcome
large_pair v1 v2 u1 u2 pos_equal_eps results points =
    cond (ltb (length results) (most_results * words_a_result) || ltb (length points) (most_results * floats_a_result))
    (record { answer = Err NoRoom; results = results; points = points })
    (by_checks (first (large_pair_checks v1 v2 u1 u2 pos_equal_eps)) (results_of v1 v2 u1 u2 pos_equal_eps) results points)

pub record LeavesLarge (o : LargeOutcome) (answer : LargePair) (results : List ℕ) (points : List Float) : Type 0 where
  pub answer-is : answer ≡ o.answer
  pub results-hold : results ≡ o.results
  pub points-hold : points ≡ o.points
