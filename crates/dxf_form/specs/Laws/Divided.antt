-- A whole number divided by a whole number: one rounding of the exact quotient, and finite.
use Rattle.std.specs.Prelude.{ℕ, ◌+◌, ◌*◌, ◌^◌, ◌≤◌, ◌<◌, ◌≡◌, Bool, true, false, T, Float}
use Rattle.std.proofs.Common.{mul-le-mul, arith, pow-add}
use Rattle.std.specs.Float.{Format}
use Rattle.std.specs.Float.Ieee.{low, emax, div}
use Rattle.std.specs.Float.Ieee.Exact.{HasValue}
use Rattle.std.specs.Float.Ieee.Scale.{finite}
use Rattle.float_laws.specs.Signed.{ups, downs, own-diff}
use Rattle.float_laws.specs.Rounded.{div-rounded}
use Rattle.float_laws.specs.Roundings.{rounded-within}
use Rattle.float_laws.specs.Magnitudes.{within-finite}

module _ (f : Format) (x y : Float) (s : Bool) (n d : ℕ) (some : 0 < d) (a : HasValue x s n 1) (b : HasValue y false d 1) where
  pub quotient-finite : (k : ℕ) → n ≤ 2 ^ k → k ≤ emax f → T (finite (div f x y))
  quotient-finite k h room =
      let r = div-rounded f x y (ups s n) (downs s n) 1 false d 1 (omega arith) (omega arith) some (own-diff x s n 1 a) b in
      let m = sizes s n d (2 ^ k) (2 ^ low f) (2 ^ (k + low f)) some (pow-add 2 k (low f)) h in
      within-finite f (k + low f) (div f x y)
      (rounded-within f (div f x y) _ _ (d * 1) (k + low f) r (omega arith) m.0 m.1 (omega arith))
    where
      sizes : (s : Bool) (n d B L K : ℕ) → 0 < d → K ≡ B * L → n ≤ B
          → (ups s n * 1 * L ≤ downs s n * 1 * L + K * (d * 1)) × (downs s n * 1 * L ≤ ups s n * 1 * L + K * (d * 1))
      sizes s n d B L K p e h =
          let one : n * L ≤ B * L = mul-le-mul h (omega arith) in
          let two : B * L * 1 ≤ B * L * d = mul-le-mul (omega arith) p in
          let all : n * L ≤ K * d = rw e (omega arith) in
          go s all
        where
          go : (s : Bool) → n * L ≤ K * d
              → (ups s n * 1 * L ≤ downs s n * 1 * L + K * (d * 1)) × (downs s n * 1 * L ≤ ups s n * 1 * L + K * (d * 1))
          go true h = (omega arith, omega arith)
          go false h = (omega arith, omega arith)
