-- Logic on the kinds of two patterns: s and t say that the first and the second is a signalling NaN, m and n that it is a NaN.
-- The two are mixed if one is a signalling NaN and the other is no NaN.
use Rattle.std.specs.Prelude.{◌≡◌, Bool, true, false, not, ◌&&◌, ◌||◌, ◌⊎◌, refl}
use Rattle.std.proofs.Common.{inl, inr, true≢false}
use Rattle.std.proofs.lemmas.Bool.{false≢true}

pub and_left : (a b : Bool) → (a && b) ≡ true → a ≡ true
and_left true b h = refl
and_left false b h = absurd (false≢true h)

pub or-either : (s t p q : Bool) → ((s && p) || (t && q)) ≡ true → (s ≡ true) ⊎ (t ≡ true)
or-either true t p q h = inl refl
or-either false true p q h = inr refl
or-either false false p q h = absurd (false≢true h)

-- in a pair that is not mixed, the partner of a signalling NaN is a NaN
pub beside_first : (s t m n : Bool) → ((s && not n) || (t && not m)) ≡ false → s ≡ true → n ≡ true
beside_first s t m true h e = refl
beside_first true t m false h e = absurd (true≢false h)
beside_first false t m false h e = absurd (false≢true e)

pub beside-second : (s t m n : Bool) → ((s && not n) || (t && not m)) ≡ false → t ≡ true → m ≡ true
beside-second s t true n h e = refl
beside-second s false false n h e = absurd (false≢true e)
beside-second false true false n h e = absurd (true≢false h)
beside-second true true false true h e = absurd (true≢false h)
beside-second true true false false h e = absurd (true≢false h)

-- in a mixed pair one is a NaN and the other is not; p and q say which NaNs are signalling
pub one-nan : (m n p q : Bool) → (((m && p) && not n) || ((n && q) && not m)) ≡ true → n ≡ not m
one-nan true false p q h = refl
one-nan false true p q h = refl
one-nan false false p q h = absurd (false≢true h)
one-nan true true false false h = absurd (false≢true h)
one-nan true true false true h = absurd (false≢true h)
one-nan true true true false h = absurd (false≢true h)
one-nan true true true true h = absurd (false≢true h)
