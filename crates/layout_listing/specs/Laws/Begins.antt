-- Whether bytes begin with a line: what the test says, and one turn of the loop that makes it.
use Rattle.std.specs.Prelude.{ℕ, zero, suc, ◌+◌, ◌-◌, ◌≤◌, ◌<◌, ◌≡◌, refl, Bool, true, false, cond, List, [], ◌∷◌, ◌++◌, eqb, length, get_or, take, drop}
use Rattle.std.proofs.Common.{sym, true≢false, zero-add, suc-add, add-one, arith, eq-eqb, ne_eqb, eqb-true, length-drop, drop_of_length-le, take_all}
use Rattle.std.proofs.Math.Seq.{drop-cons}
use Rattle.layout_listing.specs.Answer.{begins}

-- ---- the loop

pub too_short : (line bytes : List ℕ) → length bytes < length line → begins line bytes ≡ false
unfolding begins
too_short [] bytes h = absurd (omega arith)
too_short (b ∷ line) [] h = refl
too_short (b ∷ line) (c ∷ bytes) h = go (eqb c b) (too_short line bytes (omega arith))
  where
    go : (same : Bool) → begins line bytes ≡ false → cond same (begins line bytes) false ≡ false
    go true e = e
    go false e = refl

module _ (line bytes : List ℕ) (i : ℕ) (all : Bool) (inv : begins (drop i line) (drop i bytes) ≡ all) where
  pub at-end : length line ≤ i → true ≡ all
  unfolding begins
  at-end h = rw (drop_of_length-le line h) at inv

  module _ (inside : i < length line) (long : length line ≤ length bytes) where
    next : cond (eqb (get_or bytes i 0) (get_or line i 0)) (begins (drop (suc i) line) (drop (suc i) bytes)) false ≡ all
    unfolding begins
    next = rw (drop-cons line i 0 inside, drop-cons bytes i 0 (omega arith)) at inv

    pub at_other : (get_or bytes i 0 ≡ get_or line i 0 → ⊥) → false ≡ all
    at_other h = rw (ne_eqb _ _ h) at next

    pub at_same : get_or bytes i 0 ≡ get_or line i 0 → begins (drop (i + 1) line) (drop (i + 1) bytes) ≡ all
    at_same h = rw add-one (rw (eq-eqb _ _ h) at next)

-- ---- what the test says: the first bytes are the line

pub begins-line : (line rest : List ℕ) → begins line (line ++ rest) ≡ true
unfolding begins
begins-line [] rest = refl
begins-line (b ∷ line) rest = rw (eq-eqb b b refl) (begins-line line rest)

pub first-bytes : (line bytes : List ℕ) → begins line bytes ≡ true → take (length line) bytes ≡ line
unfolding begins
first-bytes [] bytes e = refl
first-bytes (b ∷ line) [] e = absurd (true≢false (sym e))
first-bytes (b ∷ line) (c ∷ bytes) e = go (eqb c b) refl e (first-bytes line bytes)
  where
    go : (same : Bool) → eqb c b ≡ same → cond same (begins line bytes) false ≡ true
        → (begins line bytes ≡ true → take (length line) bytes ≡ line) → c ∷ take (length line) bytes ≡ b ∷ line
    go true is e rest = rw (eqb-true c b is, rest e) refl
    go false is e rest = absurd (true≢false (sym e))

-- so there are as many bytes
pub begins-long : (line bytes : List ℕ) → begins line bytes ≡ true → length line ≤ length bytes
unfolding begins
begins-long [] bytes e = omega arith
begins-long (b ∷ line) [] e = absurd (true≢false (sym e))
begins-long (b ∷ line) (c ∷ bytes) e = go (eqb c b) e (begins-long line bytes)
  where
    go : (same : Bool) → cond same (begins line bytes) false ≡ true
        → (begins line bytes ≡ true → length line ≤ length bytes) → suc (length line) ≤ suc (length bytes)
    go true e rest = omega (arith, rest e)
    go false e rest = absurd (true≢false (sym e))

-- ---- a front part, and all that follows one

pub rest_all : (k : ℕ) (bytes : List ℕ) → take (length bytes - k) (drop k bytes) ≡ drop k bytes
rest_all k bytes = take_all (length bytes - k) (drop k bytes) (omega (arith, length-drop k bytes))

-- more bytes than the line has do not change it
pub begins-take : (line bytes : List ℕ) (m : ℕ) → begins line (take (length line + m) bytes) ≡ begins line bytes
unfolding begins
begins-take [] bytes m = refl
begins-take (b ∷ line) [] m = rw suc-add refl
begins-take (b ∷ line) (c ∷ bytes) m = rw (suc-add, begins-take line bytes m) refl

pub drop-take : (k : ℕ) (bytes : List ℕ) (m : ℕ) → drop k (take (k + m) bytes) ≡ take m (drop k bytes)
drop-take zero bytes m = rw zero-add refl
drop-take (suc k) [] m = rw suc-add (sym (none m))
  where
    none : (m : ℕ) → take {A = ℕ} m [] ≡ []
    none zero = refl
    none (suc m) = refl
drop-take (suc k) (c ∷ bytes) m = rw suc-add (drop-take k bytes m)
