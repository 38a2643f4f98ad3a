-- Blanks, digits and the end of a line: what is read is at the front of the text, and what is at the front is read.
use Rattle.std.specs.Prelude.{ℕ, zero, suc, ◌+◌, ◌*◌, ◌-◌, ◌≤◌, ◌<◌, ◌≡◌, refl, Bool, true, false, not, cond, List, [], ◌∷◌, ◌++◌, T, ltb, eqb, length, drop}
use Rattle.std.proofs.Common.{sym, ap, subst, arith, lt-ltb, le-ltb, eqb-true, ltb→lt, nltb→le, eqb→eq}
use Rattle.dxf_form.specs.Form.{blanks, AllDigits, none, more, whole_from}
use Rattle.dxf_form.specs.Workings.Reader.{Got, nothing, got, is_digit, first_byte, past_blanks, Run, digits_from, line_end}

-- `nothing` is never `got`
pub never : {A P : Type 0} {a : A} {rest : List ℕ} → ◌≡◌ {A = Got A} nothing (got a rest) → P
never e = let z : ◌≡◌ {A = ℕ} 0 1 = cc in absurd (omega arith)

-- ---- the first byte

pub first-is : (text : List ℕ) (b : ℕ) → 0 < b → eqb (first_byte text) b ≡ true → text ≡ b ∷ drop 1 text
first-is [] b p e = let z = eqb-true 0 b e in absurd (omega arith)
first-is (a ∷ rest) b p e = ap (λ (c : ℕ). c ∷ rest) (eqb-true a b e)

-- ---- blanks

pub record Blanks (text : List ℕ) : Type 0 where
  pub many : ℕ
  pub is : text ≡ blanks many ++ past_blanks text

pub blanks-spelt : (text : List ℕ) → Blanks text
unfolding past_blanks
blanks-spelt [] = record { many = 0; is = refl }
blanks-spelt (b ∷ rest) =
    let s = go (eqb b 32) (eqb→eq b 32) (blanks-spelt rest) in
    record { many = s.0; is = s.1 }
  where
    go : (blank : Bool) → (T blank → b ≡ 32) → Blanks rest
        → (k : ℕ) × (b ∷ rest ≡ blanks k ++ cond blank (past_blanks rest) (b ∷ rest))
    go true is s = (suc s.many, rw (is tt) (ap (λ (t : List ℕ). 32 ∷ t) s.is))
    go false is s = (0, refl)

pub blanks-read : (k : ℕ) (text : List ℕ) → eqb (first_byte text) 32 ≡ false → past_blanks (blanks k ++ text) ≡ text
unfolding past_blanks
blanks-read zero [] h = refl
blanks-read zero (b ∷ rest) h = rw h
blanks-read (suc k) text h = blanks-read k text h

-- ---- digits

-- the digits at the front of the text, as they are read
pub record Digits (n k : ℕ) (text : List ℕ) (r : Run) : Type 0 where
  pub digits : List ℕ
  pub all : AllDigits digits
  pub is : text ≡ digits ++ r.rest
  pub number : r.number ≡ whole_from n digits
  pub many : r.many ≡ k + length digits

digit-is : (b : ℕ) → is_digit b ≡ true → (b ≡ 48 + (b - 48)) × (b - 48 < 10)
digit-is b e = go (ltb b 48) (nltb→le b 48) (ltb b 58) (ltb→lt b 58) e
  where
    go : (low : Bool) → (T (not low) → 48 ≤ b) → (small : Bool) → (T small → b < 58) → cond low false small ≡ true
        → (b ≡ 48 + (b - 48)) × (b - 48 < 10)
    go true l s h e = let z : ◌≡◌ {A = ℕ} 0 1 = cc in absurd (omega arith)
    go false l true h e =
        let h1 = l tt in
        let h2 = h tt in
        (omega arith, omega arith)
    go false l false h e = let z : ◌≡◌ {A = ℕ} 0 1 = cc in absurd (omega arith)

pub is-digit-lem : (d : ℕ) → d < 10 → is_digit (48 + d) ≡ true
is-digit-lem d h =
    let large : 48 ≤ 48 + d = omega arith in
    let small : 48 + d < 58 = omega arith in
    rw (le-ltb _ _ large, lt-ltb _ _ small)

pub digits-spelt : (text : List ℕ) (n k : ℕ) → Digits n k text (digits_from n k text)
unfolding digits_from
digits-spelt [] n k = record { digits = []; all = none; is = refl; number = refl; many = omega arith }
digits-spelt (b ∷ rest) n k = go (is_digit b) (digit-is b) (digits-spelt rest (n * 10 + (b - 48)) (k + 1))
  where
    go : (digit : Bool) → (digit ≡ true → (b ≡ 48 + (b - 48)) × (b - 48 < 10))
        → Digits (n * 10 + (b - 48)) (k + 1) rest (digits_from (n * 10 + (b - 48)) (k + 1) rest)
        → Digits n k (b ∷ rest)
        (cond digit (digits_from (n * 10 + (b - 48)) (k + 1) rest) (record { number = n; many = k; rest = b ∷ rest }))
    go true is s =
        record {
          digits = b ∷ s.digits;
          all =
              subst (λ (c : ℕ). AllDigits (c ∷ s.digits)) (sym (is refl).0) (more (is refl).1 s.all);
          is = ap (λ (t : List ℕ). b ∷ t) s.is;
          number = s.number;
          many = omega (arith, s.many);
        }
    go false is s = record { digits = []; all = none; is = refl; number = refl; many = omega arith }

pub digits-read : (digits rest : List ℕ) (n k : ℕ) → AllDigits digits → is_digit (first_byte rest) ≡ false
    → digits_from n k (digits ++ rest) ≡ record { number = whole_from n digits; many = k + length digits; rest = rest }
unfolding digits_from
digits-read [] [] n k none h = let e : k ≡ k + 0 = omega arith in rw (← e)
digits-read [] (b ∷ rest) n k none h = let e : k ≡ k + 0 = omega arith in rw (h, ← e)
digits-read (_ ∷ digits) rest n k (more {d} small all) h =
    let e : k + 1 + length digits ≡ k + suc (length digits) = omega arith in
    let s = digits-read digits rest (n * 10 + (48 + d - 48)) (k + 1) all h in
    rw (is-digit-lem d small, s, e)

-- ---- the end of a line

pub end-spelt : {A : Type 0} (a b : A) (text rest : List ℕ) → line_end a text ≡ got b rest → (text ≡ 10 ∷ rest) × (a ≡ b)
unfolding line_end
end-spelt a b [] rest e = never e
end-spelt a b (c ∷ t) rest e = go (eqb c 10) (eqb→eq c 10) e
  where
    go : (ended : Bool) → (T ended → c ≡ 10) → cond ended (got a t) nothing ≡ got b rest → (c ∷ t ≡ 10 ∷ rest) × (a ≡ b)
    go true is e = let same : t ≡ rest = cc in (rw (is tt, same), cc)
    go false is e = never e

pub end_read : {A : Type 0} (a : A) (rest : List ℕ) → line_end a (10 ∷ rest) ≡ got a rest
unfolding line_end
end_read a rest = refl
