-- Hex digits put one after the other, and how many there are.
use Rattle.std.specs.Prelude.{ℕ, zero, suc, ◌+◌, ◌-◌, ◌/◌, ◌%◌, ◌<◌, ◌≡◌, refl, List, [], ◌∷◌, length, set}
use Rattle.std.proofs.Common.{ap, ◌∙◌, arith, length-append}
use Rattle.put_text.specs.Workings.Put.{Put}
use Rattle.put_text.specs.Laws.Put.{put-none, put_one, put-join}
use Rattle.answer_lines.specs.Lines.{glyph, hex}

pub hex-long : (k n : ℕ) → length (hex k n) ≡ k
unfolding hex
hex-long zero n = refl
hex-long (suc k) n =
    let rest = hex-long k (n / 16) in
    rw (length-append (hex k (n / 16)) (glyph (n % 16) ∷ [])) (omega arith)

-- one digit more than n / 16 has
pub one_more : (k n : ℕ) → 0 < k → length (hex (k - 1) n) + 1 ≡ k
one_more k n h = let long = hex-long (k - 1) n in omega arith

pub put-hex-none : (k n : ℕ) → k ≡ 0 → (old : List ℕ) (at : ℕ) → Put (hex k n) old at old at
unfolding hex
put-hex-none k n e old at = rw e (put-none old at)

pub put-hex-more : (k n : ℕ) → 0 < k → {old mid : List ℕ} {at to : ℕ} → Put (hex (k - 1) (n / 16)) old at mid to
    → (g : ℕ) → g ≡ glyph (n % 16) → Put (hex k n) old at (set mid to g) (to + 1)
unfolding hex
put-hex-more k n h {old} {mid} {at} {to} p g e =
    let one : k ≡ suc (k - 1) = omega arith in
    rw (one, e) (put-join p (put_one mid to (glyph (n % 16))))

pub hex-after : (k n : ℕ) {old now : List ℕ} {at next : ℕ} → Put (hex k n) old at now next → next ≡ at + k
hex-after k n {at = at} p = p.after ∙ ap (λ (l : ℕ). at + l) (hex-long k n)
