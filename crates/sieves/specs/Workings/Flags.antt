-- Flags of a block of indices: src/flags.rt. The flags say which indices a sieve leaves, in the order of the indices.
use Rattle.std.specs.Prelude.{◌≡◌, refl, Bool, true, false, cond, List, ◌⊎◌, ℕ, zero, suc, ◌+◌, ◌-◌, ◌≤◌, ◌<◌, ltb, length, get_or, set}
use Rattle.std.proofs.Common.{sym, ap, ◌∙◌, inl, inr, eq-or-lt_of_le, arith, length-set, get_or-set_same, get_or-set_other}

-- how many indices a block has at most
abbrev pub block : ℕ
block = 64

unfoldable pub flag : Bool → ℕ
flag left = cond left 1 0

-- a sieve that leaves everything
abbrev pub every : ℕ → Bool
every k = true

-- whether the flag of index k is up, if the flags are those from `from` on
abbrev pub is_up : List ℕ → ℕ → ℕ → Bool
is_up l from k = ltb 0 (get_or l (k - from) 0)

-- the flags of `count` indices, from `from` on
unfoldable pub flags_from : (ℕ → Bool) → ℕ → ℕ → List ℕ → List ℕ
flags_from left from zero l = l
flags_from left from (suc count) l = set (flags_from left from count l) count (flag (left (from + count)))

abbrev pub flags : (ℕ → Bool) → ℕ → ℕ → List ℕ → List ℕ
flags left from to l = flags_from left from (to - from) l

-- ---- written and read
flags-length : (left : ℕ → Bool) (from count : ℕ) (l : List ℕ) → length (flags_from left from count l) ≡ length l
unfolding flags_from
flags-length left from zero l = refl
flags-length left from (suc count) l =
    length-set (flags_from left from count l) count (flag (left (from + count))) ∙ flags-length left from count l

pub flags_long : (left : ℕ → Bool) (from to : ℕ) (l : List ℕ) → length (flags left from to l) ≡ length l
flags_long left from to l = flags-length left from (to - from) l

flag_up : (b : Bool) → ltb 0 (flag b) ≡ b
unfolding flag
flag_up true = refl
flag_up false = refl

read : (left : ℕ → Bool) (from count : ℕ) (l : List ℕ) → count ≤ length l → (k : ℕ) → k < count
    → get_or (flags_from left from count l) k 0 ≡ flag (left (from + k))
unfolding flags_from
read left from zero l room k below = absurd (omega (arith, below))
read left from (suc count) l room k below =
    let up_to : k ≤ count = omega (arith, below) in
    go (eq-or-lt_of_le up_to) (λ (h : k < count). read left from count l (omega (arith, room)) k h)
  where
    now : List ℕ
    now = flags_from left from count l

    go : (k ≡ count) ⊎ (k < count) → (k < count → get_or now k 0 ≡ flag (left (from + k)))
        → get_or (set now count (flag (left (from + count)))) k 0 ≡ flag (left (from + k))
    go (inl e) rest =
        ap (λ (n : ℕ). get_or (set now count (flag (left (from + count)))) n 0) e
        ∙ get_or-set_same now count (flag (left (from + count))) 0 (omega (arith, room, flags-length left from count l))
        ∙ ap (λ (n : ℕ). flag (left (from + n))) (sym e)
    go (inr h) rest =
        get_or-set_other now count k (flag (left (from + count))) 0 (λ (e : k ≡ count). omega (arith, h, e)) ∙ rest h

pub is-up-lem : (left : ℕ → Bool) (from to : ℕ) (l : List ℕ) → to - from ≤ length l → (k : ℕ) → from ≤ k → k < to
    → is_up (flags left from to l) from k ≡ left k
is-up-lem left from to l room k low high =
    let here : from + (k - from) ≡ k = omega (arith, low) in
    ap (ltb 0) (read left from (to - from) l room (k - from) (omega (arith, low, high)))
    ∙ flag_up (left (from + (k - from)))
    ∙ ap left here

-- ---- a loop that writes them: those before j are written
pub record Writing (left : ℕ → Bool) (from to : ℕ) (old now : List ℕ) (j : ℕ) : Type 0 where
  pub is : now ≡ flags_from left from (j - from) old
  pub low : from ≤ j
  pub high : j ≤ to
  pub long : length now ≡ length old

pub writing-starts : (left : ℕ → Bool) (from to : ℕ) (old : List ℕ) → from ≤ to → Writing left from to old old from
unfolding flags_from
writing-starts left from to old h =
    let none : 0 ≡ from - from = omega arith in
    record { is = ap (λ (n : ℕ). flags_from left from n old) none; low = omega arith; high = h; long = refl }

pub writing-turn : {left : ℕ → Bool} {from to j : ℕ} {old now : List ℕ} (said : ℕ) (b : Bool)
    → Writing left from to old now j → j < to → said ≡ flag b → b ≡ left j
    → Writing left from to old (set now (j - from) said) (j + 1)
unfolding flags_from
writing-turn {left} {from} {to} {j} {old} {now} said b so_far below f e =
    let here : j ≡ from + (j - from) = omega (arith, so_far.low) in
    let next : suc (j - from) ≡ j + 1 - from = omega (arith, so_far.low) in
    record {
      is =
          ap (λ (l : List ℕ). set l (j - from) said) so_far.is
          ∙ ap (set (flags_from left from (j - from) old) (j - from)) (f ∙ ap flag (e ∙ ap left here))
          ∙ ap (λ (n : ℕ). flags_from left from n old) next;
      low = omega (arith, so_far.low);
      high = omega (arith, below);
      long = length-set now (j - from) said ∙ so_far.long;
    }

pub writing-ends : {left : ℕ → Bool} {from to j : ℕ} {old now : List ℕ} → Writing left from to old now j → to ≤ j
    → now ≡ flags left from to old
writing-ends {left} {from} {to} {j} {old} so_far beyond =
    let all : j - from ≡ to - from = omega (arith, so_far.high, beyond) in
    so_far.is ∙ ap (λ (n : ℕ). flags_from left from n old) all
