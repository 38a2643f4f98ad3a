-- The groups of n are the shortest form of n, and there is only one such: they give n again, whatever other groups give n are no
-- fewer, and none that are as few are others.
use Rattle.std.specs.Prelude.{ℕ, zero, suc, ◌+◌, ◌*◌, ◌%◌, ◌≤◌, ◌<◌, ◌≡◌, List, [], ◌∷◌, length}
use Rattle.std.proofs.Common.{ap, arith}
use Rattle.layout_packed.specs.Groups.{groups_of}
use Rattle.layout_packed.specs.Laws.Groups.{groups-small, groups-large, groups-more, by-groups}
use Rattle.layout_packed.specs.Laws.Put.{groups-one}

-- the number that groups give, the lowest first
abbrev pub value_of : List ℕ → ℕ
value_of [] = 0
value_of (b ∷ rest) = b % 128 + value_of rest * 128

-- bytes with the top bit set in all but the last
pub data Grouped : List ℕ → Type 0 where
  last : {b : ℕ} → b < 128 → Grouped (b ∷ [])
  next : {b : ℕ} {rest : List ℕ} → 128 ≤ b → b < 256 → Grouped rest → Grouped (b ∷ rest)

pub are-grouped : (n : ℕ) → Grouped (groups_of n)
are-grouped =
    by-groups (λ n. Grouped (groups_of n)) (λ n small. rw (groups-small n small) (last small))
    (λ n large later. rw (groups-large n large) (next {b = 128 + n % 128} (omega arith) (omega arith) later))

pub give-back : (n : ℕ) → value_of (groups_of n) ≡ n
give-back =
    by-groups (λ n. value_of (groups_of n) ≡ n) (λ n small. rw (groups-small n small) (omega arith))
    (λ n large later. rw (groups-large n large, later) (omega arith))

-- ---- any groups

-- no fewer than those of their number, and these if they are as few
record Shortest (bytes : List ℕ) : Type 0 where
  pub no-fewer : length (groups_of (value_of bytes)) ≤ length bytes
  pub same : length bytes ≤ length (groups_of (value_of bytes)) → bytes ≡ groups_of (value_of bytes)

some_bytes : {bytes : List ℕ} → Grouped bytes → 0 < length bytes
some_bytes (last h) = omega arith
some_bytes (next h g s) = omega arith

-- one more group before others that give v
one_more : (b v : ℕ) (rest : List ℕ) → 128 ≤ b → b < 256 → 0 < length rest → length (groups_of v) ≤ length rest
    → (length rest ≤ length (groups_of v) → rest ≡ groups_of v)
    → (length (groups_of (b % 128 + v * 128)) ≤ suc (length rest))
    × (suc (length rest) ≤ length (groups_of (b % 128 + v * 128)) → b ∷ rest ≡ groups_of (b % 128 + v * 128))
one_more b zero rest h g some short same =
    let one : length (groups_of (b % 128 + 0 * 128)) ≡ 1 = groups-one (b % 128 + 0 * 128) (omega arith) in
    (omega arith, λ long. absurd (omega arith))
one_more b (suc v) rest h g some short same =
    let more = groups-more (b % 128) (suc v) (omega arith) (omega arith) in
    let first : 128 + b % 128 ≡ b = omega arith in
    rw (more, first) (omega arith, λ long. ap (λ (l : List ℕ). b ∷ l) (same (omega arith)))

shortest-of : {bytes : List ℕ} → Grouped bytes → Shortest bytes
shortest-of (last {b = b} h) =
    let value : b % 128 + 0 * 128 ≡ b = omega arith in
    record { no-fewer = rw (value, groups-small b h) (omega arith); same = λ long. rw (value, groups-small b h) }
shortest-of (next {b = b} {rest = rest} h g s) =
    let later = shortest-of s in
    let both = one_more b (value_of rest) rest h g (some_bytes s) later.no-fewer later.same in
    record { no-fewer = both.0; same = both.1 }

pub no-fewer-groups : (bytes : List ℕ) → Grouped bytes → length (groups_of (value_of bytes)) ≤ length bytes
no-fewer-groups bytes s = (shortest-of s).no-fewer

pub one-shortest : (bytes : List ℕ) → Grouped bytes → length bytes ≤ length (groups_of (value_of bytes))
    → bytes ≡ groups_of (value_of bytes)
one-shortest bytes s = (shortest-of s).same
