-- The three ends of `min` and `max`: the second operand is a NaN, the test picks the first, or it does not. The test, `first`, is
-- one that no NaN passes.
use Rattle.std.proofs.Common.{◌≡◌, Bool, true, false, cond, T, sym, refl, ◌∙◌, subst, true≢false}
use lib.Ieee.{Float, nan, inf, fin, is_nan, lt, ne}
use lib.Ieee.Compare.{differs_from_itself}
use Rattle.floats.specs.F64.{choose}
use Rattle.floats.specs.Laws.Nan.{number}

pub second-nan : (first : Bool) (x y : Float) → ne y y ≡ true → x ≡ choose first x y
unfolding is_nan
second-nan first x y h = subst (λ (v : Float). x ≡ choose first x v) (sym (differs_from_itself y (subst T (sym h) tt))) (go x)
  where
    go : (x : Float) → x ≡ choose first x nan
    go nan = refl
    go (inf s) = refl
    go (fin s m e) = refl

pub first-picked : (first : Bool) (x y : Float) → ne y y ≡ false → (is_nan x ≡ true → first ≡ false) → first ≡ true
    → x ≡ choose first x y
first-picked first x y h no_nan t = sym (rw (number y h, t) (go (is_nan x) refl))
  where
    go : (b : Bool) → is_nan x ≡ b → cond b y x ≡ x
    go true e = absurd (true≢false (sym t ∙ no_nan e))
    go false e = refl

pub second-picked : (first : Bool) (x y : Float) → ne y y ≡ false → first ≡ false → y ≡ choose first x y
second-picked first x y h t = sym (rw (number y h, t) (go (is_nan x)))
  where
    go : (b : Bool) → cond b y y ≡ y
    go true = refl
    go false = refl

-- no NaN is below a number, and no number below a NaN
pub nan-not-below : (x y : Float) → is_nan x ≡ true → lt x y ≡ false
unfolding is_nan lt
nan-not-below nan y h = refl
nan-not-below (inf s) y h = absurd (true≢false (sym h))
nan-not-below (fin s m e) y h = absurd (true≢false (sym h))

pub none-below-nan : (x y : Float) → is_nan x ≡ true → lt y x ≡ false
unfolding is_nan lt
none-below-nan nan nan h = refl
none-below-nan nan (inf s) h = refl
none-below-nan nan (fin s m e) h = refl
none-below-nan (inf s) y h = absurd (true≢false (sym h))
none-below-nan (fin s m e) y h = absurd (true≢false (sym h))
