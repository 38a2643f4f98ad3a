-- `word` meets its contract: each part is below its unit's share, so no sum wraps.
use Prim.Native.Nat.{◌<◌}
use native.Mathlib.Omega.{arith}
use borrow.Author.Rules.{rules}
use Rattle.checks.specs.FaultNumbers.{items, item-below}
use Rattle.checks.specs.Word.{word}
use Rattle.checks.proofs.word.word.Statement.{statement}
use Rattle.checks.proofs.word.word.Tie as tie

few : (c : tie.After-struct_known-3-1) → c.item_number-item.result < items
few c =
    let n = c.before.before in
    omega (arith, n.item_number-item.ensures, item-below n.before.before.before.args.fault.place.item)

returns : tie.Need-returns
unfolding word
returns c = simp c.item_number-item.ensures

pub word_spec : {M : Type 1} → statement M
word_spec =
    tie.close
    (tie.spec
    (λ c. search rules) (λ c. omega arith) (λ c. omega (arith, few c)) (λ c. omega (arith, few c)) (λ c. omega (arith, few c))
    (λ c. omega (arith, few c)) (λ c. omega (arith, few c)) (λ c. omega (arith, few c)) returns)
