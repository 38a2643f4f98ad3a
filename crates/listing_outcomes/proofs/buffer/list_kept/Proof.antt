-- `listing_outcomes::buffer::list_kept` meets its contract: with the sieve of lines or without, the listing is the same.
use mathlib.Core.Path.{◌≡◌, refl, sym}
use mathlib.Core.Bool.{Bool, true, false, ◌||◌, true≢false}
use native.Mathlib.Omega.{arith}
use borrow.Author.Rules.{rules}
use borrow.Author.Tests.{ltb-false}
use lib.Dec.{ltb}
use Rattle.paths.specs.Path.{most_vertices}
use Rattle.listing_outcomes.proofs.buffer.list_kept.Statement.{statement}
use Rattle.listing_outcomes.proofs.buffer.list_kept.Tie as tie

neither : (a b : Bool) → (a || b) ≡ false → a ≡ false
neither true b e = e
neither false b e = refl

abbrev start : tie.After-every_pair-pairs → tie.Start
start c = c.before.before.before.before.before.before

every-pair-requires : tie.Need-every_pair-pairs-requires
every-pair-requires c κs = let ready = c.requires.pairs in (ready.few, ready.few-second)

list-by-requires : tie.Need-list_by-requires
list-by-requires c κs = ((start c.before.before.before.before).requires, (λ e. absurd (true≢false (sym e))))

list-sieved-requires : tie.Need-list_sieved-requires
list-sieved-requires c κs =
    let s = start c.before.before.before.before in
    let few = ltb-false most_vertices s.args.job.m (neither (ltb most_vertices s.args.job.m) _ c.if-m-pairs.false) in
    (s.requires, omega (arith, few))

pub list_kept_spec : {M : Type 1} → statement M
list_kept_spec =
    tie.close
    (tie.spec
    every-pair-requires list-by-requires (λ c. search rules) (λ c. search rules) (λ c. search rules)
    list-sieved-requires (λ c. search rules) (λ c. search rules) (λ c. search rules))
