-- `floats::root::turn` meets its contract: a difference that has wrapped says that too little is left, and each return is a branch
-- of the definition. By `Room` every sum fits 64 bits.
use Rattle.std.proofs.Common.{◌≡◌, ℕ, ◌+◌, ◌-◌, ◌/◌, ◌%◌, ◌^◌, ◌<◌, ◌≤◌, refl, ap, ◌∙◌, arith, rules, le-leb}
use borrow.Author.Tests.{lt-leb}
use Rattle.float_laws.specs.Branches.{holds, fails}
use Rattle.floats.specs.Workings.Root
use Rattle.floats.specs.Laws.Turns.{Room}
use Rattle.floats.specs.declared.root.Turning.{Turning}
use Rattle.floats.proofs.root.turn.Statement.{statement}
use Rattle.floats.proofs.root.turn.Tie as tie

-- what the test says
module _ (s : Turning) (t : Room s) (left : ℕ) (is : (left + s.step) % 2 ^ 64 ≡ s.rest) where
  wrapped : left < 2 ^ 64 → 2 ^ 63 ≤ left → s.rest < s.step
  wrapped f l = omega (arith, t.rest-most, t.step-most)

  enough : left < 2 ^ 63 → s.step ≤ s.rest
  enough l = omega (arith, t.rest-most, t.step-most)

  same : left < 2 ^ 63 → left ≡ s.rest - s.step
  same l = omega (arith, t.rest-most, t.step-most)

abbrev one : Turning → ℕ → Turning
one s left = record { rest = left + left; step = s.step - s.unit / 2 + s.unit + s.unit; unit = s.unit / 2 }

returns : tie.Need-returns-then-left-ge-BELOW_ZERO
unfolding Root.turn
returns c =
    let tested = c.before.before in
    let start = tested.before.before.before in
    let left = tested.wrapping_sub_u64-left in
    let less = wrapped start.args.s start.requires _ left.ensures left.type_inv c.before.if-left-ge-BELOW_ZERO.true in
    fails _ _ _ _ (lt-leb _ _ less) refl

returns-2 : tie.Need-returns
unfolding Root.turn
returns-2 c =
    let tested = c.before.before.before in
    let start = tested.before.before.before in
    let s = start.args.s in
    let is = tested.wrapping_sub_u64-left.ensures in
    let l = c.before.before.if-left-ge-BELOW_ZERO.false in
    ap (one s) (same s start.requires _ is l) ∙ holds _ _ _ _ (le-leb _ _ (enough s start.requires _ is l)) refl

pub turn_spec : {M : Type 1} → statement M
turn_spec =
    tie.close
    (tie.spec
    (λ c. search rules) (λ c. search rules) (λ c. search rules) returns (λ c. search rules) (λ c. search rules)
    (λ c. search rules) returns-2)
