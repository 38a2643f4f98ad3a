-- `floats::root::rounded` meets its contract: the first digit is read off the number, 52 turns find the others, and the last
-- comparison rounds.
use Rattle.std.proofs.Common.{◌≡◌, ℕ, ◌+◌, ◌-◌, ◌*◌, ◌/◌, ◌%◌, ◌^◌, ◌<◌, ◌≤◌, arith, rules}
use Rattle.floats.specs.Laws.Turns.{Turn, start, after-four, some, down, up}
use Rattle.floats.proofs.RootBits.{handed-in, moved}
use Rattle.floats.proofs.root.rounded.Statement.{statement}
use Rattle.floats.proofs.root.rounded.Tie as tie

-- the number whose root is taken, and the first digit as the code reads it
abbrev number : tie.Start → ℕ
number c = c.args.m * 2 ^ c.args.odd

abbrev first : tie.Start → ℕ
first c = c.args.m / 2 ^ 52 * 2 ^ 52 % 2 ^ 64

range : (c : tie.Start) → (2 ^ 52 ≤ number c) × (number c < 2 ^ 54)
range c = handed-in c.args.m c.args.odd c.requires.0 c.requires.1.0 c.requires.1.1

same : (c : tie.Start) → number c % 2 ^ 64 ≡ number c
same c = moved c.args.m c.args.odd c.requires.1.0 c.requires.1.1

is_one : (c : tie.Start) → first c ≡ 2 ^ 52
is_one c = go c.args.m c.requires.0 c.requires.1.0
  where
    go : (m : ℕ) → 2 ^ 52 ≤ m → m < 2 ^ 53 → m / 2 ^ 52 * 2 ^ 52 % 2 ^ 64 ≡ 2 ^ 52
    go m l h = omega arith

at0 : (c : tie.Start) → let left = number c % 2 ^ 64 - first c in
    Turn (number c) 52 (record { rest = left + left; step = first c + first c + first c / 2; unit = first c / 2 })
at0 c = go (number c) (first c) (number c % 2 ^ 64) (range c) (same c) (is_one c)
  where
    go : (x d z : ℕ) → (2 ^ 52 ≤ x) × (x < 2 ^ 54) → z ≡ x → d ≡ 2 ^ 52
        → Turn x 52 (record { rest = (z - d) + (z - d); step = d + d + d / 2; unit = d / 2 })
    go x d z r a b = start x _ r.0 r.1 (omega arith) (omega arith) (omega arith)

at1 : (c : tie.After-four_turns-s1) → Turn (number c.before) 48 c.four_turns-s1.result
at1 c = after-four _ 48 _ _ c.four_turns-s1.ensures (at0 c.before)

at2 : (c : tie.After-four_turns-s2) → Turn (number c.before.before) 44 c.four_turns-s2.result
at2 c = after-four _ 44 _ _ c.four_turns-s2.ensures (at1 c.before)

at3 : (c : tie.After-four_turns-s3) → Turn (number c.before.before.before) 40 c.four_turns-s3.result
at3 c = after-four _ 40 _ _ c.four_turns-s3.ensures (at2 c.before)

at4 : (c : tie.After-four_turns-s4) → Turn (number c.before.before.before.before) 36 c.four_turns-s4.result
at4 c = after-four _ 36 _ _ c.four_turns-s4.ensures (at3 c.before)

at5 : (c : tie.After-four_turns-s5) → Turn (number c.before.before.before.before.before) 32 c.four_turns-s5.result
at5 c = after-four _ 32 _ _ c.four_turns-s5.ensures (at4 c.before)

at6 : (c : tie.After-four_turns-s6)
    → Turn (number c.before.before.before.before.before.before) 28 c.four_turns-s6.result
at6 c = after-four _ 28 _ _ c.four_turns-s6.ensures (at5 c.before)

at7 : (c : tie.After-four_turns-s7)
    → Turn (number c.before.before.before.before.before.before.before) 24 c.four_turns-s7.result
at7 c = after-four _ 24 _ _ c.four_turns-s7.ensures (at6 c.before)

at8 : (c : tie.After-four_turns-s8)
    → Turn (number c.before.before.before.before.before.before.before.before) 20 c.four_turns-s8.result
at8 c = after-four _ 20 _ _ c.four_turns-s8.ensures (at7 c.before)

at9 : (c : tie.After-four_turns-s9)
    → Turn (number c.before.before.before.before.before.before.before.before.before) 16 c.four_turns-s9.result
at9 c = after-four _ 16 _ _ c.four_turns-s9.ensures (at8 c.before)

at10 : (c : tie.After-four_turns-s10)
    → Turn (number c.before.before.before.before.before.before.before.before.before.before) 12
    c.four_turns-s10.result
at10 c = after-four _ 12 _ _ c.four_turns-s10.ensures (at9 c.before)

at11 : (c : tie.After-four_turns-s11)
    → Turn (number c.before.before.before.before.before.before.before.before.before.before.before) 8
    c.four_turns-s11.result
at11 c = after-four _ 8 _ _ c.four_turns-s11.ensures (at10 c.before)

at12 : (c : tie.After-four_turns-s12)
    → Turn (number c.before.before.before.before.before.before.before.before.before.before.before.before) 4
    c.four_turns-s12.result
at12 c = after-four _ 4 _ _ c.four_turns-s12.ensures (at11 c.before)

at13 : (c : tie.After-four_turns-s13)
    → Turn (number c.before.before.before.before.before.before.before.before.before.before.before.before.before) 0
    c.four_turns-s13.result
at13 c = after-four _ 0 _ _ c.four_turns-s13.ensures (at12 c.before)

returns : tie.Need-returns-then-s13-doubled
returns c = let t = at13 c.before.before.before in down _ _ t (omega (arith, c.if-s13-doubled.true))

returns-2 : tie.Need-returns
returns-2 c = let t = at13 c.before.before.before in up _ _ t (omega (arith, c.if-s13-doubled.false))

pub rounded_spec : {M : Type 1} → statement M
rounded_spec =
    tie.close
    (tie.spec
    (λ c. search rules)
    (λ c. omega (arith, range c, same c, is_one c))
    (λ c. omega (arith, range c, same c, is_one c))
    (λ c. search rules)
    (λ c. search rules)
    (λ c κs. (_, (48, at0 c)))
    (λ c κs. (_, (44, at1 c)))
    (λ c κs. (_, (40, at2 c)))
    (λ c κs. (_, (36, at3 c)))
    (λ c κs. (_, (32, at4 c)))
    (λ c κs. (_, (28, at5 c)))
    (λ c κs. (_, (24, at6 c)))
    (λ c κs. (_, (20, at7 c)))
    (λ c κs. (_, (16, at8 c)))
    (λ c κs. (_, (12, at9 c)))
    (λ c κs. (_, (8, at10 c)))
    (λ c κs. (_, (4, at11 c)))
    (λ c κs. (_, (0, at12 c)))
    (λ c. some _ _ (at13 c.before))
    returns
    (λ c. search rules)
    returns-2)
