-- The ends of the call: there is no room; a pair that is not cut, by the quick test; a refusal; or all results are written.
use Rattle.std.specs.Prelude.{Err, Ok}
use Rattle.checks.specs.Checked.{Checked}
use Prim.Native.Nat.{ℕ, ◌*◌, ◌<◌, ◌≤◌}
use mathlib.Core.Path.{◌≡◌, refl, sym, ap, ◌∙◌, subst}
use mathlib.Core.Bool.{Bool, true, false, cond, ◌&&◌, ◌||◌}
use mathlib.Core.List.{List, [], ◌∷◌}
use borrow.Author.Tests.{lt-ltb, le-ltb}
use denote.Floats.{passes}
use lib.Dec.{T, ltb}
use lib.ListN.{length}
use lib.Seq.{sets}
use lib.Ieee.{Float}
use Rattle.plane.specs.declared.pline_vertex.PlineVertex.{PlineVertex}
use Rattle.checks.specs.declared.fault.Fault.{Fault}
use Rattle.checks.specs.First.{first}
use Rattle.arcs.specs.declared.pline_seg_intr.PlineSegIntr.{PlineSegIntr}
use Rattle.crossing.specs.PlineSeg.{pline_seg}
use Rattle.fast_pair.specs.Workings.AllFine.{pair_fine}
use Rattle.large_pair.specs.LargePair.{
  large_pair_checks,
  results_of,
  Result,
  words_of,
  floats_of,
  most_results,
  words_a_result,
  floats_a_result,
  LargeOutcome,
  by_checks,
  large_pair,
  LeavesLarge,
  refusal,
}
use Rattle.large_pair.specs.SameAsPair.{one-result}
use Rattle.large_pair.specs.Workings.Pieces.{result_of, Stored}
use Rattle.large_pair.specs.Laws.Fine.{quick-whole}
use Rattle.checks.specs.declared.call.CallError.TheVariants.{NoRoom, Refused}

abbrev words : ℕ
words = most_results * words_a_result

abbrev floats : ℕ
floats = most_results * floats_a_result

module _ (v1 v2 u1 u2 : PlineVertex) (eps : Float) (r₀ : List ℕ) (p₀ : List Float) where
  pub short-results : length r₀ < words → LeavesLarge (large_pair v1 v2 u1 u2 eps r₀ p₀) (Err NoRoom) r₀ p₀
  unfolding large_pair
  short-results h = rw (lt-ltb (length r₀) words h) (record { answer-is = refl; results-hold = refl; points-hold = refl })

  pub short-points : words ≤ length r₀ → length p₀ < floats
      → LeavesLarge (large_pair v1 v2 u1 u2 eps r₀ p₀) (Err NoRoom) r₀ p₀
  unfolding large_pair
  short-points h k =
      rw (le-ltb (length r₀) words h, lt-ltb (length p₀) floats k)
      (record { answer-is = refl; results-hold = refl; points-hold = refl })

  module _ (h : words ≤ length r₀) (k : floats ≤ length p₀) where
    -- what the checks say
    by-checks : {c : Checked} {found : List Result} → first (large_pair_checks v1 v2 u1 u2 eps) ≡ c
        → results_of v1 v2 u1 u2 eps ≡ found → large_pair v1 v2 u1 u2 eps r₀ p₀ ≡ by_checks c found r₀ p₀
    unfolding large_pair
    by-checks {c} e f =
        let no_room : LargeOutcome = record { answer = Err NoRoom; results = r₀; points = p₀ } in
        let checks = first (large_pair_checks v1 v2 u1 u2 eps) in
        let found = results_of v1 v2 u1 u2 eps in
        let enough : (ltb (length r₀) words || ltb (length p₀) floats) ≡ false =
        rw (le-ltb (length r₀) words h, le-ltb (length p₀) floats k) refl in
        ap (λ (s : Bool). cond s no_room (by_checks checks found r₀ p₀)) enough
        ∙ ap (λ (d : Checked). by_checks d found r₀ p₀) e
        ∙ ap (λ (l : List Result). by_checks c l r₀ p₀) f

    pub refused : {c : Checked} {fault : Fault} → c ≡ first (large_pair_checks v1 v2 u1 u2 eps) → c ≡ Err fault
        → LeavesLarge (large_pair v1 v2 u1 u2 eps r₀ p₀) (Err (Refused fault)) r₀ p₀
    refused {c} {fault} is e =
        let o = by-checks (sym is ∙ e) refl in
        record {
          answer-is = sym (ap (λ (x : LargeOutcome). x.answer) o);
          results-hold = sym (ap (λ (x : LargeOutcome). x.results) o);
          points-hold = sym (ap (λ (x : LargeOutcome). x.points) o);
        }

    pub written : {n : ℕ} {r : List ℕ} {p : List Float} → first (large_pair_checks v1 v2 u1 u2 eps) ≡ Ok tt
        → Stored (results_of v1 v2 u1 u2 eps) n r₀ r p₀ p
        → LeavesLarge (large_pair v1 v2 u1 u2 eps r₀ p₀) (Ok n) r p
    written e s =
        let o = by-checks e refl in
        record {
          answer-is = ap Ok s.count-is ∙ sym (ap (λ (x : LargeOutcome). x.answer) o);
          results-hold = s.words ∙ sym (ap (λ (x : LargeOutcome). x.results) o);
          points-hold = s.floats ∙ sym (ap (λ (x : LargeOutcome). x.points) o);
        }

    -- by the quick test of the pair call
    pub quick : {test : Bool} {met : PlineSegIntr} {r : List ℕ} {p : List Float} → test ≡ pair_fine v1 v2 u1 u2 eps → test ≡ true
        → met ≡ pline_seg v1 v2 u1 u2 eps
        → r ≡ sets r₀ 0 (words_of (result_of 0 0 met)) → p ≡ sets p₀ 0 (floats_of (result_of 0 0 met))
        → LeavesLarge (large_pair v1 v2 u1 u2 eps r₀ p₀) (Ok 1) r p
    quick {met = met} {r = r} {p = p} says y is words floats =
        let q = quick-whole v1 v2 u1 u2 eps (passes _ (sym says ∙ y)) in
        let one : results_of v1 v2 u1 u2 eps ≡ result_of 0 0 met ∷ [] =
        one-result v1 v2 u1 u2 eps q.v-whole q.u-whole ∙ ap (λ (m : PlineSegIntr). result_of 0 0 m ∷ []) (sym is) in
        written q.checked
        (subst (λ (l : List Result). Stored l 1 r₀ r p₀ p) (sym one) (record { count-is = refl; words = words; floats = floats }))
