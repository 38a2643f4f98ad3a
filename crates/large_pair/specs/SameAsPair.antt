-- With no bulge above 1 in magnitude the call is the pair call: its checks are the same, so its refusals are, and its one result
-- is that of the pair call, with halves 0 and 0. A bulge above 1 is what the pair call refuses with 3; here 3 is given above 16.
use Rattle.checks.specs.declared.fault.Fault.{Fault}
use Rattle.checks.specs.Checked.{Checked}
use Rattle.std.specs.Prelude.{ℕ, ◌*◌, ◌≤◌, ◌≡◌, Bool, false, ◌||◌, ltb, length, Float, Err, Ok, Result as Answer}
use Rattle.std.proofs.Math.Path.{refl, ap}
use Rattle.std.proofs.Common.{sym, ◌∙◌, le-ltb}
use Rattle.std.proofs.Math.Bool.{cond}
use mathlib.Core.List.{List, [], ◌∷◌, ◌++◌}
use Rattle.std.proofs.lemmas.List.Edits.{sets}
use Rattle.plane.specs.declared.pline_vertex.PlineVertex.{PlineVertex}
use Rattle.checks.specs.Calls.{pline_seg_checks, check_pline_seg}
use Rattle.checks.specs.First.{first}
use Rattle.checks.specs.Answered.{answered}
use Rattle.arcs.specs.declared.pline_seg_intr.PlineSegIntr.{PlineSegIntr}
use Rattle.crossing.specs.PlineSeg.{pline_seg}
use Rattle.crossing.specs.PlineSegIntr.{class_of, point1_of, point2_of}
use Rattle.crossing.specs.PlineSegIntersect.{pline_seg_intr}
use Rattle.cuts.specs.Cut.{is_large}
use Rattle.large_pair.specs.LargePair.{
  large_pair_checks,
  results_of,
  Result,
  most_results,
  words_a_result,
  floats_a_result,
  LargeOutcome,
  by_checks,
  large_pair,
}
use Rattle.large_pair.specs.Laws.Whole.{whole-checks, whole-results}
use Rattle.checks.specs.declared.call.CallError.TheVariants.{NoRoom, Refused}

-- a pair's answer, as one result whose halves are 0 and 0
abbrev pub of_pair : Answer PlineSegIntr Fault → List ℕ → List Float → LargeOutcome
of_pair (Err fault) results points =
    record { answer = Err (Refused fault); results = results; points = points }
of_pair (Ok met) results points =
    record {
      answer = Ok 1;
      results = sets results 0 (0 ∷ 0 ∷ class_of met ∷ []);
      points = sets points 0 ((point1_of met).x ∷ (point1_of met).y ∷ (point2_of met).x ∷ (point2_of met).y ∷ []);
    }

enough : (results : List ℕ) (points : List Float) → most_results * words_a_result ≤ length results
    → most_results * floats_a_result ≤ length points
    → (ltb (length results) (most_results * words_a_result) || ltb (length points) (most_results * floats_a_result)) ≡ false
enough results points h k = rw (le-ltb _ _ h, le-ltb _ _ k) refl

module _ (v1 v2 u1 u2 : PlineVertex) (pos_equal_eps : Float) (v-whole : is_large v1.bulge ≡ false)
    (u-whole : is_large u1.bulge ≡ false) where
  -- the same checks in the same order
  pub same-checks : large_pair_checks v1 v2 u1 u2 pos_equal_eps ≡ pline_seg_checks v1 v2 u1 u2 pos_equal_eps
  same-checks = whole-checks v1 v2 u1 u2 pos_equal_eps v-whole u-whole

  -- one result, of the pair itself
  pub one-result : results_of v1 v2 u1 u2 pos_equal_eps
      ≡ record { v-half = 0; u-half = 0; met = pline_seg v1 v2 u1 u2 pos_equal_eps } ∷ []
  one-result = whole-results v1 v2 u1 u2 pos_equal_eps v-whole u-whole

  -- the same answer
  pub same-as-pair : (results : List ℕ) (points : List Float) → most_results * words_a_result ≤ length results
      → most_results * floats_a_result ≤ length points
      → large_pair v1 v2 u1 u2 pos_equal_eps results points ≡ of_pair (pline_seg_intr v1 v2 u1 u2 pos_equal_eps) results points
  unfolding large_pair pline_seg_intr check_pline_seg
  same-as-pair results points h k =
      let checks = large_pair_checks v1 v2 u1 u2 pos_equal_eps in
      let found = results_of v1 v2 u1 u2 pos_equal_eps in
      let no_room : LargeOutcome = record { answer = Err NoRoom; results = results; points = points } in
      ap (λ (s : Bool). cond s no_room (by_checks (first checks) found results points)) (enough results points h k)
      ∙ ap (λ (cs : List Checked). by_checks (first cs) found results points) same-checks
      ∙ ap (λ (l : List Result). by_checks (first (pline_seg_checks v1 v2 u1 u2 pos_equal_eps)) l results points) one-result
      ∙ go (first (pline_seg_checks v1 v2 u1 u2 pos_equal_eps)) (pline_seg v1 v2 u1 u2 pos_equal_eps)
    where
      go : (c : Checked) (met : PlineSegIntr)
          → by_checks c (record { v-half = 0; u-half = 0; met = met } ∷ []) results points
          ≡ of_pair (answered Err Ok c met) results points
      go (Ok _) met = refl
      go (Err fault) met = refl
