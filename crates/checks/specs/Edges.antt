-- The limits as powers of two, and the checks at each limit: the limit passes, the next float beyond it is refused, and so are a
-- NaN and both infinities. The definitions of Each.antt compute every entry.
use Rattle.checks.specs.Checked.{Checked}
use Rattle.std.specs.Prelude.{◌≡◌, refl, false, List, [], ◌∷◌, ◌++◌, ℕ, zero, suc, ◌+◌, ◌-◌, pos, negsuc, Float, Ok}
use Rattle.std.specs.Float.{fin, binary64}
use Rattle.std.specs.Float.Ieee.{of_bits, is_nan, lt}
use Rattle.floats.specs.F64
use Rattle.checks.specs.declared.fault.Item.TheVariants.{Epsilon}
use Rattle.checks.specs.declared.fault.Place.{Place}
use Rattle.checks.specs.Fault.{at, bad, refuse, later}
use Rattle.checks.specs.Number.{is_infinite, not_finite, beyond}
use Rattle.checks.specs.Each
use Rattle.checks.specs.Limit

-- `fin false 1 (pos k)` is 2^k, and `fin false 1 (negsuc k)` is 2^-(k+1)
pub record Powers : Type 0 where
  pub coordinate : Limit.coordinate ≡ fin false 1 (pos 20)
  pub bulge : Limit.bulge ≡ fin false 1 (pos 0)
  pub large-bulge : Limit.large_bulge ≡ fin false 1 (pos 4)
  pub epsilon-least : Limit.epsilon_least ≡ fin false 1 (negsuc 39)
  pub epsilon-most : Limit.epsilon_most ≡ fin false 1 (negsuc 0)
  pub chord-least : Limit.chord_least ≡ fin false 1 (negsuc 39)
  pub radius-least : Limit.radius_least ≡ fin false 1 (negsuc 41)
  pub radius-most : Limit.radius_most ≡ fin false 1 (pos 47)
  pub center : Limit.center ≡ fin false 1 (pos 48)

pub powers : Powers
unfolding of_bits
powers =
    record {
      coordinate = refl;
      bulge = refl;
      large-bulge = refl;
      epsilon-least = refl;
      epsilon-most = refl;
      chord-least = refl;
      radius-least = refl;
      radius-most = refl;
      center = refl;
    }

-- an entry: a check, the bits of the checked number, and the refusal, or 0 for none
pub data Entry : Type 0 where
  entry : (Float → Place → Checked) → ℕ → ℕ → Entry

abbrev pub answer : ℕ → Place → Checked
answer zero p = Ok tt
answer (suc n) p = bad (suc n) p

-- what the checks of the entries answer at the place p, and what they should answer
abbrev pub found : Place → List Entry → List Checked
found p [] = []
found p (entry check bits n ∷ entries) = check (of_bits binary64 bits) p ∷ found p entries

abbrev pub due : Place → List Entry → List Checked
due p [] = []
due p (entry check bits n ∷ entries) = answer n p ∷ due p entries

-- NaNs (quiet and signalling, of either sign) are refused with number n, and +infinity and -infinity with m
abbrev pub not_numbers : (Float → Place → Checked) → ℕ → ℕ → List Entry
not_numbers check n m =
    entry check 0x7ff8_0000_0000_0000 n ∷
    entry check 0xfff8_0000_0000_0000 n ∷
    entry check 0x7ff0_0000_0000_0001 n ∷
    entry check 0xfff0_0000_0000_0001 n ∷
    entry check 0x7ff0_0000_0000_0000 m ∷
    entry check 0xfff0_0000_0000_0000 m ∷ []

-- an upper limit in magnitude: the limit and the next float beyond it, whose pattern is one more, with either sign
abbrev pub up_to : (Float → Place → Checked) → ℕ → ℕ → List Entry
up_to check limit n =
    entry check limit 0 ∷
    entry check (limit + 1) n ∷
    entry check (limit + 0x8000_0000_0000_0000) 0 ∷
    entry check (limit + 0x8000_0000_0000_0001) n ∷ []

-- a lower limit: the limit, the float before it, +0 and -1
abbrev pub from : (Float → Place → Checked) → ℕ → ℕ → List Entry
from check limit n =
    entry check limit 0 ∷
    entry check (limit - 1) n ∷
    entry check 0 n ∷
    entry check 0xbff0_0000_0000_0000 n ∷ []

-- epsilon, which has a place of its own
abbrev pub epsilon_entries : List Entry
epsilon_entries =
    let check : Float → Place → Checked = λ x p. Each.epsilon x in
    from check 0x3d70_0000_0000_0000 4
    ++ (entry check 0x3fe0_0000_0000_0000 0 ∷ entry check 0x3fe0_0000_0000_0001 4 ∷ [])
    ++ not_numbers check 4 4

-- the numbers that can stand at any place
abbrev pub entries : List Entry
entries =
    up_to Each.coordinate 0x4130_0000_0000_0000 2
    ++ not_numbers Each.coordinate 11 12
    ++ up_to Each.bulge 0x3ff0_0000_0000_0000 3
    ++ not_numbers Each.bulge 11 12
    ++ up_to Each.large_bulge 0x4030_0000_0000_0000 3
    ++ not_numbers Each.large_bulge 11 12
    ++ from Each.radius 0x3d50_0000_0000_0000 9
    ++ (entry Each.radius 0x42e0_0000_0000_0000 0 ∷ entry Each.radius 0x42e0_0000_0000_0001 9 ∷ [])
    ++ not_numbers Each.radius 11 12
    ++ up_to Each.center 0x42f0_0000_0000_0000 9
    ++ not_numbers Each.center 11 12
    ++ from Each.chord 0x3d70_0000_0000_0000 5
    ++ (entry Each.chord 0x7ff8_0000_0000_0000 0 ∷ [])

pub epsilon-edges : found (at 0 0 Epsilon) epsilon_entries ≡ due (at 0 0 Epsilon) epsilon_entries
unfolding Each.epsilon refuse not_finite is_nan is_infinite lt of_bits
epsilon-edges = refl

pub edges : (p : Place) → found p entries ≡ due p entries
unfolding Each.finite Each.finite_then Each.coordinate Each.bulge Each.large_bulge Each.radius Each.center Each.chord
    refuse later not_finite is_nan is_infinite beyond F64.abs lt of_bits
edges p = refl
