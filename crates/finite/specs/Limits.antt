-- The numbers that pass the checks are bounded: bulges by 1, radii by 2^47, centres by 2^48. Coordinates are bounded by 2^20 by
-- `coordinate-small` of `checks`.
use Rattle.std.specs.Prelude.{refl, ℕ, ◌+◌, ◌*◌, ◌^◌, ◌≤◌, ◌<◌, Bool, true, false, Float}
use Rattle.std.proofs.Common.{zero-lt-suc, arith, pow_pos}
use Rattle.std.specs.Float.{nan, inf, fin}
use Rattle.std.specs.Float.Ieee.{up, down, of_bits}
use Rattle.std.specs.Float.Ieee.Fits.{down_pos}
use Rattle.float_laws.specs.Signed.{Diff, ups, downs}
use Rattle.float_laws.specs.Order.{le-diff}
use Rattle.float_laws.specs.Chains.{written-diff}
use Rattle.floats.specs.F64
use Rattle.checks.specs.Limit
use Rattle.checks.specs.Laws.Fine.{Within, Between}
use Rattle.float_laws.specs.Sizes.{Small}

-- at most 2 ^ k in magnitude
pub within-small : (k : ℕ) (most x : Float) → Diff most (2 ^ k) 0 1 → Within most x → Small k x
unfolding F64.abs
within-small k most nan d w = absurd w.number
within-small k most (inf s) d w = absurd w.number
within-small k most (fin s m e) d w =
    let one = zero-lt-suc 0 in
    let l = (le-diff (fin false m e) most _ _ _ (2 ^ k) 0 1 (down_pos e) one (written-diff false m e) d).0 w.small in
    record {
      s = s;
      size = m * up e;
      over = down e;
      some = down_pos e;
      value = (refl, refl);
      le = plain (m * up e) (down e) (2 ^ k) l;
    }
  where
    plain : (M c p : ℕ) → M * 1 + 0 * c ≤ p * c + 0 * 1 → M ≤ p * c
    plain M c p h = omega arith

-- from 1 / 2 ^ j to 2 ^ k
pub between-small : (j k : ℕ) (least most x : Float) → Diff least 1 0 (2 ^ j) → Diff most (2 ^ k) 0 1 → Between least most x
    → Small k x
between-small j k least most nan c d b = absurd b.number
between-small j k least most (inf s) c d b = absurd b.number
between-small j k least most (fin s m e) c d b =
    let x = fin s m e in
    let is = written-diff s m e in
    let l = (le-diff least x 1 0 (2 ^ j) _ _ _ (pow_pos j) (down_pos e) c is).0 b.above in
    let h = (le-diff x most _ _ _ (2 ^ k) 0 1 (down_pos e) (zero-lt-suc 0) is d).0 b.below in
    record {
      s = s;
      size = m * up e;
      over = down e;
      some = down_pos e;
      value = (refl, refl);
      le = plain s (m * up e) (down e) (2 ^ j) (2 ^ k) (down_pos e) l h;
    }
  where
    plain : (s : Bool) (M c p q : ℕ) → 0 < c → 1 * c + downs s M * p ≤ ups s M * p + 0 * c
        → ups s M * 1 + 0 * c ≤ q * c + downs s M * 1
        → M ≤ q * c
    plain true M c p q C l h = absurd (never (M * p) c C l)
      where
        never : (n c : ℕ) → 0 < c → 1 * c + n ≤ 0 * p + 0 * c → ⊥
        never n c C l = omega arith
    plain false M c p q C l h = omega arith

bulge-is : Diff Limit.bulge (2 ^ 0) 0 1
unfolding of_bits
bulge-is = omega arith

least-is : Diff Limit.radius_least 1 0 (2 ^ 42)
unfolding of_bits
least-is = omega arith

radius-is : Diff Limit.radius_most (2 ^ 47) 0 1
unfolding of_bits
radius-is = omega arith

center-is : Diff Limit.center (2 ^ 48) 0 1
unfolding of_bits
center-is = omega arith

module _ (x : Float) where
  pub bulge-small : Within Limit.bulge x → Small 0 x
  bulge-small w = within-small 0 Limit.bulge x bulge-is w

  pub center-small : Within Limit.center x → Small 48 x
  center-small w = within-small 48 Limit.center x center-is w

  pub radius-small : Between Limit.radius_least Limit.radius_most x → Small 47 x
  radius-small b = between-small 42 47 Limit.radius_least Limit.radius_most x least-is radius-is b
