-- The kind of a byte says which byte it is, unless it is of the kind `other`.
use Rattle.std.specs.Prelude.{ℕ, ◌+◌, ◌-◌, ◌≤◌, ◌<◌, ◌≡◌, Bool, true, false, not, cond, T, ltb, eqb}
use Rattle.std.proofs.Common.{sym, ap, ◌∙◌, arith, lt-ltb, le-ltb, ltb→lt, nltb→le, eqb→eq}
use Rattle.layout_text.specs.Workings.Reader.{kind_of, space, newline, minus, other}

-- the byte of a kind
unfoldable pub byte_of : ℕ → ℕ
byte_of k = cond (ltb k 10) (48 + k) (cond (eqb k space) 32 (cond (eqb k newline) 10 45))

pub kind-digit : (d : ℕ) → d < 10 → kind_of (48 + d) ≡ d
unfolding kind_of
kind-digit d h =
    let large : 48 ≤ 48 + d = omega arith in
    let small : 48 + d < 58 = omega arith in
    let back : 48 + d - 48 ≡ d = omega arith in
    rw (le-ltb _ _ large, lt-ltb _ _ small) back

pub byte-digit : (d : ℕ) → d < 10 → byte_of d ≡ 48 + d
unfolding byte_of
byte-digit d h = rw (lt-ltb _ _ h)

pub byte-of-lem : (b : ℕ) → kind_of b < other → b ≡ byte_of (kind_of b)
unfolding kind_of byte_of
byte-of-lem b =
    go (ltb b 48) (nltb→le b 48) (eqb b 45) (eqb→eq b 45) (eqb b 32) (eqb→eq b 32) (eqb b 10) (eqb→eq b 10)
    (ltb b 58) (ltb→lt b 58)
  where
    go : (low : Bool) → (T (not low) → 48 ≤ b) → (m : Bool) → (T m → b ≡ 45) → (s : Bool) → (T s → b ≡ 32) → (n : Bool)
        → (T n → b ≡ 10)
        → (d : Bool) → (T d → b < 58)
        → cond low (cond m minus (cond s space (cond n newline other))) (cond d (b - 48) other) < other
        → b ≡ byte_of (cond low (cond m minus (cond s space (cond n newline other))) (cond d (b - 48) other))
    go true l true em s es n en d ed h = em tt
    go true l false em true es n en d ed h = es tt
    go true l false em false es true en d ed h = en tt
    go true l false em false es false en d ed h = absurd (omega arith)
    go false l m em s es n en true ed h =
        let h1 = l tt in
        let h2 = ed tt in
        let small : b - 48 < 10 = omega arith in
        let back : b ≡ 48 + (b - 48) = omega arith in
        back ∙ sym (byte-digit (b - 48) small)
    go false l m em s es n en false ed h = absurd (omega arith)

pub byte-is : (b k : ℕ) → k < other → kind_of b ≡ k → b ≡ byte_of k
byte-is b k h e = byte-of-lem b (omega arith) ∙ ap byte_of e

-- the byte of a digit
pub digit-byte : (b : ℕ) → kind_of b < 10 → b ≡ 48 + kind_of b
digit-byte b h = byte-of-lem b (omega arith) ∙ byte-digit (kind_of b) h
