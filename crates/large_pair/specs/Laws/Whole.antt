-- A pair that is not cut: its checks are those of the pair call, and it has one result.
use Rattle.std.specs.Prelude.{ℕ, ◌≡◌, Bool, true, false, cond, List, [], ◌∷◌, ◌++◌, T, Float}
use Rattle.std.proofs.Math.Path.{refl}
use Rattle.std.proofs.Common.{sym, ap, ◌∙◌}
use Rattle.std.specs.Float.{nan, inf, fin}
use Rattle.std.specs.Float.Ieee.{is_nan, of_bits, lt, le}
use Rattle.std.specs.Float.Ieee.Bits.{is_false}
use Rattle.float_laws.specs.Chains as order
use Rattle.floats.specs.Ops.{◌≻◌, ◌≼◌, f1}
use Rattle.floats.specs.F64
use Rattle.plane.specs.declared.pline_vertex.PlineVertex.{PlineVertex}
use Rattle.checks.specs.declared.fault.Place.{Place}
use Rattle.checks.specs.Number.{beyond}
use Rattle.checks.specs.Limit
use Rattle.checks.specs.Each
use Rattle.checks.specs.Refusal
use Rattle.checks.specs.Calls.{pline_seg_checks}
use Rattle.crossing.specs.PlineSeg.{pline_seg}
use Rattle.cuts.specs.Cut.{is_large}
use Rattle.cuts.specs.LargeChecks.{segment_checks}
use Rattle.large_pair.specs.LargePair.{large_pair_checks, results_of}

-- what is not above 1 is not above 16
within : (b : Float) → is_large b ≡ false → beyond Limit.large_bulge b ≡ beyond Limit.bulge b
unfolding is_large of_bits beyond F64.abs lt le is_nan
within nan e = refl
within (inf s) e = refl
within (fin s m x) e =
    let a = F64.abs (fin s m x) in
    is_false (a ≻ Limit.large_bulge)
    (order.le_not_lt a Limit.large_bulge
    (order.le_trans a Limit.bulge Limit.large_bulge (order.not-below a Limit.bulge refl refl e) tt))
    ∙ sym e

same-bulge : (b : Float) (p : Place) → is_large b ≡ false → Each.large_bulge b p ≡ Each.bulge b p
unfolding Each.large_bulge Each.bulge
same-bulge b p e = ap (λ (t : Bool). Each.finite_then b t Refusal.bulge p) (within b e)

module _ (v1 v2 u1 u2 : PlineVertex) (pos_equal_eps : Float) (v-whole : is_large v1.bulge ≡ false)
    (u-whole : is_large u1.bulge ≡ false) where
  pub whole-checks : large_pair_checks v1 v2 u1 u2 pos_equal_eps ≡ pline_seg_checks v1 v2 u1 u2 pos_equal_eps
  unfolding segment_checks
  whole-checks = rw (v-whole, u-whole, same-bulge v1.bulge _ v-whole, same-bulge u1.bulge _ u-whole) refl

  pub whole-results : results_of v1 v2 u1 u2 pos_equal_eps
      ≡ record { v-half = 0; u-half = 0; met = pline_seg v1 v2 u1 u2 pos_equal_eps } ∷ []
  whole-results = rw (v-whole, u-whole) refl
