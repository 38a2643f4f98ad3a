-- The proof of Release.antt.
use Rattle.checks.specs.declared.fault.Fault.{Fault}
use Rattle.checks.specs.Checked.{Checked}
use Rattle.std.specs.Prelude.{◌≡◌, true, Float, Err, Ok, Result}
use Rattle.std.proofs.Common.{subst}
use Rattle.std.specs.Float.Ieee.Bits.{is_true}
use Rattle.floats.specs.Ops.{◌≼◌, f0, f1}
use Rattle.plane.specs.declared.vector2.Vector2.{Vector2}
use Rattle.checks.specs.Answered.{answered}
use Rattle.checks.specs.Calls.{check_line_line}
use Rattle.crossing.specs.LineLine.{line_line}
use Rattle.crossing.specs.LineLineIntersect.{line_line_intr}
use Rattle.crossing.specs.declared.line_line_intr.LineLineIntr.{LineLineIntr}
use Rattle.crossing.specs.declared.line_line_intr.LineLineIntr.TheVariants as LineLineIntr·
use Rattle.release.specs.Release.{Calls, Release}
use Rattle.release.specs.Laws.Kernels.{line-line, line-and-circle, circle-and-circle}
use Rattle.release.specs.Laws.Range.{InRange, in-range}
use Rattle.release.specs.Laws.Range as ranges
use Rattle.release.specs.Laws.Pair.{answer-good}
use Rattle.release.specs.Laws.Listings.{two-paths, one-path, counted-paths}
use Rattle.release.specs.Laws.LargeListings.{large-two-paths, large-one-path, large-counted-paths}
use Rattle.release.specs.Laws.LargeResults.{large-pair-wrote}

-- ---- sentence 3, of the call
abbrev Ranged : Result LineLineIntr Fault → Type 0
Ranged (Err fault) = Unit {0}
Ranged (Ok LineLineIntr·.NoIntersect) = Unit {0}
Ranged (Ok (LineLineIntr·.TrueIntersect s t)) = Unit {0}
Ranged (Ok (LineLineIntr·.FalseIntersect s t)) = Unit {0}
Ranged (Ok (LineLineIntr·.Overlapping s t)) = ((f0 ≼ s) ≡ true) × ((t ≼ f1) ≡ true)

met-ranged : (r : LineLineIntr) → InRange r → Ranged (Ok r)
met-ranged LineLineIntr·.NoIntersect ranges.nothing = tt
met-ranged (LineLineIntr·.TrueIntersect s t) ranges.met = tt
met-ranged (LineLineIntr·.FalseIntersect s t) ranges.missed = tt
met-ranged (LineLineIntr·.Overlapping s t) (ranges.shared a b) = (is_true _ a, is_true _ b)

ranged : (v1 v2 u1 u2 : Vector2) (eps : Float) → Ranged (line_line_intr v1 v2 u1 u2 eps)
unfolding line_line_intr
ranged v1 v2 u1 u2 eps = go (check_line_line v1 v2 u1 u2 eps)
  where
    go : (c : Checked) → Ranged (answered Err Ok c (line_line v1 v2 u1 u2 eps))
    go (Err fault) = tt
    go (Ok _) = met-ranged (line_line v1 v2 u1 u2 eps) (in-range v1 v2 u1 u2 eps)

of_calls : Calls
of_calls =
    record {
      line-line = line-line;
      line-circle = line-and-circle;
      circle-circle = circle-and-circle;
      answer = answer-good;
      range = λ v1 v2 u1 u2 eps t0 t1 e. subst Ranged e (ranged v1 v2 u1 u2 eps);
    }

-- ---- all of it
pub release : Release
release =
    record {
      calls = of_calls;
      two-paths = two-paths;
      one-path = one-path;
      counted-paths = counted-paths;
      large-pair = large-pair-wrote;
      large-two-paths = large-two-paths;
      large-one-path = large-one-path;
      large-counted-paths = large-counted-paths;
    }
