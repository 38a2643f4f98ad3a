-- The second word is above what the first leaves exactly if the sum is too large.
use Rattle.std.proofs.Common.{◌≡◌, ℕ, ◌+◌, ◌-◌, ◌≤◌, ltb, Bool, true, false, refl, sym, arith, lt-ltb, le-ltb, ltb-true, ltb-false}
use Rattle.month.specs.Report.{largest}
use Rattle.month.proofs.join.too_large.Goals as goal

same_test : (a b : ℕ) → a ≤ largest → ltb (largest - a) b ≡ ltb largest (a + b)
same_test a b few = go (ltb (largest - a) b) refl
  where
    go : (known : Bool) → ltb (largest - a) b ≡ known → known ≡ ltb largest (a + b)
    go true e = sym (lt-ltb largest (a + b) (omega (arith, ltb-true (largest - a) b e, few)))
    go false e = sym (le-ltb largest (a + b) (omega (arith, ltb-false (largest - a) b e, few)))

pub returns : goal.returns
returns c = same_test c.args.a c.args.b (omega (arith, c.ranges.a.fits))
