-- The pairs that remain while a loop walks them, for any `from` and `to`: the next pair of this i, the next i, the end. And how
-- many pairs there are at most.
use Rattle.std.specs.Prelude.{◌≡◌, refl, Bool, true, false, ◌⊎◌, List, [], ◌∷◌, ◌++◌, ℕ, zero, suc, ◌+◌, ◌-◌, ◌*◌, ◌≤◌, ◌<◌, ltb, length}
use Rattle.std.proofs.Common.{sym, ap, ◌∙◌, inl, inr, suc-mul, add-one, arith, ltb-true, ltb-false, length-append}
use Rattle.listing_pairs.specs.Order.{Pair, along, pairs_from}

pub lt-or-le : (a b : ℕ) → (a < b) ⊎ (b ≤ a)
lt-or-le a b = go (ltb a b) refl
  where
    go : (c : Bool) → ltb a b ≡ c → (a < b) ⊎ (b ≤ a)
    go true e = inl (ltb-true a b e)
    go false e = inr (ltb-false a b e)

pub along-length : (i j k : ℕ) → length (along i j k) ≡ k
along-length i j zero = refl
along-length i j (suc k) = ap suc (along-length i (suc j) k)

module _ (from to : ℕ → ℕ) (n : ℕ) where
  -- from the pair (i, j) on
  abbrev pub left_from : ℕ → ℕ → List Pair
  left_from i j = pairs_from from to i j (n - i)

  pub left_end : (i j : ℕ) → n ≤ i → left_from i j ≡ []
  left_end i j h = let e : n - i ≡ 0 = omega (arith, h) in ap (pairs_from from to i j) e

  pub left-row : (i j : ℕ) → i < n
      → left_from i j ≡ along i j (to i - j) ++ pairs_from from to (suc i) (from (suc i)) (n - suc i)
  left-row i j h = let e : n - i ≡ suc (n - suc i) = omega (arith, h) in ap (pairs_from from to i j) e

  pub left-pair : (i j : ℕ) → i < n → j < to i → left_from i j ≡ record { i = i; j = j } ∷ left_from i (j + 1)
  left-pair i j h l =
      let e : to i - j ≡ suc (to i - suc j) = omega (arith, l) in
      let rest = pairs_from from to (suc i) (from (suc i)) (n - suc i) in
      left-row i j h
      ∙ ap (λ (k : ℕ). along i j k ++ rest) e
      ∙ ap (λ (l : List Pair). record { i = i; j = j } ∷ l) (sym (left-row i (suc j) h) ∙ ap (left_from i) (sym (add-one j)))

  pub left-next : (i j : ℕ) → i < n → to i ≤ j → left_from i j ≡ left_from (i + 1) (from (i + 1))
  left-next i j h l =
      let e : to i - j ≡ 0 = omega (arith, l) in
      let rest = pairs_from from to (suc i) (from (suc i)) (n - suc i) in
      left-row i j h ∙ ap (λ (k : ℕ). along i j k ++ rest) e ∙ ap (λ (k : ℕ). left_from k (from k)) (sym (add-one i))

  -- ---- at most n * m, if no index goes beyond m
  pub few-pairs : (m : ℕ) → ((i : ℕ) → to i ≤ m) → (i j k : ℕ) → length (pairs_from from to i j k) ≤ k * m
  few-pairs m below i j zero = omega arith
  few-pairs m below i j (suc k) =
      let rest = pairs_from from to (suc i) (from (suc i)) k in
      omega (
        arith,
        length-append (along i j (to i - j)) rest,
        along-length i j (to i - j),
        below i,
        few-pairs m below (suc i) (from (suc i)) k,
        suc-mul k m,
      )
