-- Lists one after the other, `joined`: in front of list j and behind it stand the others, and every place belongs to one list.
use Rattle.std.specs.Prelude.{◌≡◌, refl, Bool, true, false, List, ◌++◌, ℕ, zero, suc, ◌+◌, ◌-◌, ◌≤◌, ◌<◌, ltb, length, get_or}
use Rattle.std.proofs.Common.{sym, ap, ◌∙◌, append_assoc, add-zero, zero-add, add-one, arith, ltb-true, ltb-false, length-append, get_or-append-add}
use Rattle.std.proofs.Math.ListN.{get_or-append}
use Rattle.cuts.specs.CutPath.{joined}

-- place k belongs to list j: it is place m of it
pub record Found {A : Type 0} (part : ℕ → List A) (n k : ℕ) : Type 0 where
  pub j : ℕ
  pub m : ℕ
  pub below : j < n
  pub inside : m < length (part j)
  pub at : k ≡ length (joined part 0 j) + m

module _ {A : Type 0} (part : ℕ → List A) where
  joined-sum : (i k m : ℕ) → joined part i (k + m) ≡ joined part i k ++ joined part (i + k) m
  joined-sum i zero m =
      ap (joined part i) (zero-add m) ∙ ap (λ (z : ℕ). joined part z m) (sym (add-zero i))
  joined-sum i (suc k) m =
      let e : suc k + m ≡ suc (k + m) = omega arith in
      let f : i + 1 + k ≡ i + suc k = omega arith in
      ap (joined part i) e
      ∙ ap (λ (l : List A). part i ++ l) (joined-sum (i + 1) k m)
      ∙ sym (append_assoc (part i) (joined part (i + 1) k) (joined part (i + 1 + k) m))
      ∙ ap (λ (z : ℕ). (part i ++ joined part (i + 1) k) ++ joined part z m) f

  -- list j, with what stands in front of it and behind it
  pub joined-around : (n j : ℕ) → j < n
      → joined part 0 n ≡ joined part 0 j ++ (part j ++ joined part (j + 1) (n - (j + 1)))
  joined-around n j h =
      let e : n ≡ j + suc (n - (j + 1)) = omega arith in
      ap (joined part 0) e
      ∙ joined-sum 0 j (suc (n - (j + 1)))
      ∙ ap (λ (z : ℕ). joined part 0 j ++ joined part z (suc (n - (j + 1)))) (zero-add j)

  -- one list more
  pub joined-more : (j : ℕ) → length (joined part 0 (j + 1)) ≡ length (joined part 0 j) + length (part j)
  joined-more j =
      let e : j + 1 - (j + 1) ≡ 0 = omega arith in
      ap length (joined-around (j + 1) j (omega arith))
      ∙ length-append (joined part 0 j) (part j ++ joined part (j + 1) (j + 1 - (j + 1)))
      ∙ ap (λ (z : ℕ). length (joined part 0 j) + z)
      (length-append (part j) (joined part (j + 1) (j + 1 - (j + 1)))
      ∙ ap (λ (z : ℕ). length (part j) + length (joined part (j + 1) z)) e
      ∙ add-zero (length (part j)))

  pub joined-within : (n j : ℕ) → j < n → length (joined part 0 j) + length (part j) ≤ length (joined part 0 n)
  joined-within n j h =
      let rest = joined part (j + 1) (n - (j + 1)) in
      omega (
        arith,
        ap length (joined-around n j h),
        length-append (joined part 0 j) (part j ++ rest),
        length-append (part j) rest,
      )

  pub joined_at : (n j m : ℕ) (d : A) → j < n → m < length (part j)
      → get_or (joined part 0 n) (length (joined part 0 j) + m) d ≡ get_or (part j) m d
  joined_at n j m d h inside =
      let rest = joined part (j + 1) (n - (j + 1)) in
      ap (λ (l : List A). get_or l (length (joined part 0 j) + m) d) (joined-around n j h)
      ∙ get_or-append-add (joined part 0 j) (part j ++ rest) m d
      ∙ get_or-append (part j) rest d m inside

  pub find : (n k : ℕ) → k < length (joined part 0 n) → Found part n k
  find zero k h = absurd (omega (arith, h))
  find (suc n) k h =
      let front = length (joined part 0 n) in
      go n k h (ltb k front) (ltb-true k front) (ltb-false k front) (λ less. find n k less)
    where
      all : (n : ℕ) → length (joined part 0 (suc n)) ≡ length (joined part 0 n) + length (part n)
      all n = ap (λ (z : ℕ). length (joined part 0 z)) (sym (add-one n)) ∙ joined-more n

      go : (n k : ℕ) → k < length (joined part 0 (suc n)) → (b : Bool)
          → (b ≡ true → k < length (joined part 0 n)) → (b ≡ false → length (joined part 0 n) ≤ k)
          → (k < length (joined part 0 n) → Found part n k)
          → Found part (suc n) k
      go n k h true less more rest =
          let f = rest (less refl) in
          record { j = f.j; m = f.m; below = omega (arith, f.below); inside = f.inside; at = f.at }
      go n k h false less more rest =
          record {
            j = n;
            m = k - length (joined part 0 n);
            below = omega arith;
            inside = omega (arith, more refl, h, all n);
            at = omega (arith, more refl);
          }
