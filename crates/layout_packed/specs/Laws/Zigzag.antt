-- The number that is written for a coordinate or bulge: which one is meant by it, and its range.
use Rattle.std.specs.Prelude.{ℕ, zero, suc, ◌+◌, ◌*◌, ◌-◌, ◌/◌, ◌%◌, ◌≤◌, ◌≡◌, refl, Bool, true, false, eqb, ℤ, pos, negsuc}
use Rattle.std.proofs.Common.{ap, ◌∙◌, arith, eqb-true}
use Rattle.std.proofs.lemmas.Bool.{eqb-false}
use Rattle.layouts.specs.Layout.{magnitude, whole}
use Rattle.layout_packed.specs.Groups.{zigzag}
use Rattle.layout_packed.specs.Workings.Reader.{meant}

-- ---- by sign and magnitude

pub zigzag-zero : (minus : Bool) (n : ℕ) → n ≡ 0 → 0 ≡ zigzag (whole minus n)
zigzag-zero true n e = rw e
zigzag-zero false n e = rw e

pub zigzag-minus : (n : ℕ) → (n ≡ 0 → ⊥) → 2 * n - 1 ≡ zigzag (whole true n)
zigzag-minus zero h = absurd (h refl)
zigzag-minus (suc n) h = refl

-- ---- which number is meant

odd-meant : (n h : ℕ) → n ≡ 2 * h + 1 → meant n ≡ negsuc h
unfolding meant
odd-meant n h e =
    let low : n % 2 ≡ 1 = omega arith in
    let high : n / 2 ≡ h = omega arith in
    let one : h + 1 ≡ suc h = omega arith in
    rw (low, high, one)

even-meant : (n h : ℕ) → n ≡ 2 * h → meant n ≡ pos h
unfolding meant
even-meant n h e =
    let low : n % 2 ≡ 0 = omega arith in
    let high : n / 2 ≡ h = omega arith in
    let none : h + 0 ≡ h = omega arith in
    rw (low, high, none)

pub meant-zigzag : (z : ℤ) → meant (zigzag z) ≡ z
meant-zigzag (pos n) = even-meant (2 * n) n refl
meant-zigzag (negsuc n) = odd-meant (2 * suc n - 1) n (omega arith)

pub zigzag-meant : (n : ℕ) → zigzag (meant n) ≡ n
zigzag-meant n = go (eqb (n % 2) 1) refl
  where
    go : (odd : Bool) → eqb (n % 2) 1 ≡ odd → zigzag (meant n) ≡ n
    go true e =
        let low = eqb-true (n % 2) 1 e in
        let back : 2 * suc (n / 2) - 1 ≡ n = omega arith in
        ap zigzag (odd-meant n (n / 2) (omega arith)) ∙ back
    go false e =
        let low : n % 2 ≡ 0 = half (n % 2) (omega arith) (eqb-false (n % 2) 1 e) in
        let back : 2 * (n / 2) ≡ n = omega arith in
        ap zigzag (even-meant n (n / 2) (omega arith)) ∙ back
      where
        half : (r : ℕ) → r ≤ 1 → (r ≡ 1 → ⊥) → r ≡ 0
        half r h none = omega (arith, none)

-- ---- its range

pub zigzag-most : (z : ℤ) (m : ℕ) → magnitude z ≤ m → zigzag z ≤ 2 * m
zigzag-most (pos n) m h = omega arith
zigzag-most (negsuc n) m h = omega arith

pub most-zigzag : (z : ℤ) (m : ℕ) → zigzag z ≤ 2 * m → magnitude z ≤ m
most-zigzag (pos n) m h = omega arith
most-zigzag (negsuc n) m h = omega arith

pub meant-most : (n m : ℕ) → n ≤ 2 * m → magnitude (meant n) ≤ m
meant-most n m h = most-zigzag (meant n) m (omega (arith, zigzag-meant n))
