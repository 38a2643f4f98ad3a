-- Answers that differ: the text lines of two refusals with different numbers; that of a refusal, and those of a listing.
use Rattle.std.specs.Prelude.{ℕ, ◌+◌, ◌*◌, ◌-◌, ◌/◌, ◌%◌, ◌≡◌, List, [], ◌∷◌, ◌++◌, Float, length, get_or, drop}
use Rattle.std.proofs.Common.{sym, ap, ◌∙◌, append_assoc, arith}
use Rattle.put_text.specs.Decimal.{decimal}
use Rattle.put_text.specs.Laws.Decimal.{decimal-small, decimal-large, by_digits}
use Rattle.answer_lines.specs.Lines.{refused_word, newline, refused_text, count_text, answer_text}

-- the number of digits, after n
unfoldable value : ℕ → List ℕ → ℕ
value n [] = n
value n (b ∷ rest) = value (n * 10 + (b - 48)) rest

abbrev Spells : ℕ → List ℕ → Type 0
Spells m t = value 0 (decimal m ++ t) ≡ value m t

spells : (m : ℕ) (t : List ℕ) → Spells m t
unfolding value
spells = by_digits Spells
    (λ m t small. let is : 0 * 10 + (48 + m - 48) ≡ m = omega arith in
    rw (decimal-small m small) (ap (λ (k : ℕ). value k t) is))
    (λ m t large rest.
    let is : m / 10 * 10 + (48 + m % 10 - 48) ≡ m = omega arith in
    rw (decimal-large m large, append_assoc (decimal (m / 10)) ((48 + m % 10) ∷ []) t)
    (rest ∙ ap (λ (k : ℕ). value k t) is))

-- what the text line of a refusal says, ten times
abbrev said : List ℕ → ℕ
said line = value 0 (drop (length refused_word) line)

refused-said : (n : ℕ) → said (refused_text n) ≡ n * 10
unfolding refused_text value
refused-said n = let is : n * 10 + (10 - 48) ≡ n * 10 = omega arith in spells n newline ∙ is

pub refused-apart : (n m : ℕ) → refused_text n ≡ refused_text m → n ≡ m
refused-apart n m e =
    let same : n * 10 ≡ m * 10 = sym (refused-said n) ∙ ap said e ∙ refused-said m in
    omega arith

pub listed-apart : (n pairs rows : ℕ) (index : List ℕ) (points : List Float) → refused_text n ≡ answer_text pairs rows index points → ⊥
unfolding refused_text answer_text count_text
listed-apart n pairs rows index points e =
    let first : ◌≡◌ {A = ℕ} 114 112 = ap (λ (l : List ℕ). get_or l 0 0) e in
    omega (arith, first)
