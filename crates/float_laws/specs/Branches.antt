-- What a branch picks, so that `search` can follow a chain of tests: into the test that holds, and past each that does not. And
-- what follows if a call says no.
use Rattle.std.specs.Prelude.{ℕ, ◌≤◌, ◌<◌, ◌≡◌, Bool, true, false, cond, not, ◌&&◌, ◌||◌, T, eqb, ltb, Float}
use Rattle.std.proofs.Common.{ne_eqb, lt-ltb, le-ltb}
use Rattle.std.specs.Float.Ieee.{lt}

module _ {A : Type 0} (test : Bool) (x y r : A) where
  pub holds : test ≡ true → r ≡ x → r ≡ cond test x y
  holds h e = rw h e

  pub fails : test ≡ false → r ≡ y → r ≡ cond test x y
  fails h e = rw h e

-- from what a call said of the test
module _ {A : Type 0} (test said : Bool) (x y r : A) where
  pub said-so : said ≡ test → said ≡ true → r ≡ x → r ≡ cond test x y
  said-so is h e = rw (← is, h) e

  pub said-not : said ≡ test → said ≡ false → r ≡ y → r ≡ cond test x y
  said-not is h e = rw (← is, h) e

-- a comparison of two computed numbers
module _ {A : Type 0} (a b s t : Float) (x y r : A) where
  pub less : s ≡ a → t ≡ b → lt s t ≡ true → r ≡ x → r ≡ cond (lt a b) x y
  less p q h e = rw (← p, ← q, h) e

  pub not-less : s ≡ a → t ≡ b → lt s t ≡ false → r ≡ y → r ≡ cond (lt a b) x y
  not-less p q h e = rw (← p, ← q, h) e

-- whole numbers
module _ {A : Type 0} (n k : ℕ) (x y r : A) where
  pub other : (n ≡ k → ⊥) → r ≡ y → r ≡ cond (eqb n k) x y
  other h e = rw (ne_eqb n k h) e

  pub below : n < k → r ≡ x → r ≡ cond (ltb n k) x y
  below h e = rw (lt-ltb n k h) e

  pub above : k ≤ n → r ≡ y → r ≡ cond (ltb n k) x y
  above h e = rw (le-ltb n k h) e

pub ruleset branches = (holds, fails, said-so, said-not, less, not-less, other, below, above)

-- two tests that the definition joins: nested in the code, or both say no
module _ {A : Type 0} (t u a b : Bool) (x y r : A) where
  pub both : a ≡ t → b ≡ u → a ≡ true → b ≡ true → r ≡ x → r ≡ cond (t && u) x y
  both p q h k e = rw (← p, ← q, h, k) e

  pub first : a ≡ t → b ≡ u → a ≡ true → b ≡ false → r ≡ y → r ≡ cond (t && u) x y
  first p q h k e = rw (← p, ← q, h, k) e

  pub neither : a ≡ t → a ≡ false → r ≡ y → r ≡ cond (t && u) x y
  neither p h e = rw (← p, h) e

  pub one-not : a ≡ t → b ≡ u → (not a || not b) ≡ true → r ≡ x → r ≡ cond (not t || not u) x y
  one-not p q h e = rw (← p, ← q, h) e

  pub none-not : a ≡ t → b ≡ u → (not a || not b) ≡ false → r ≡ y → r ≡ cond (not t || not u) x y
  none-not p q h e = rw (← p, ← q, h) e

pub ruleset pairs = (both, first, neither, one-not, none-not, branches)

pub denied : (test said : Bool) → said ≡ test → said ≡ false → T (not test)
denied test said is h = rw (← is, h) tt
