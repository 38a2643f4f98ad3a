-- `listing_outcomes::buffer::list_sieved` meets its contract: what the sieve of lines keeps is that of all segments.
use mathlib.Core.Path.{◌≡◌}
use Prim.Native.Nat.{◌*◌}
use native.Mathlib.Omega.{arith}
use borrow.Author.Rules.{rules}
use lib.Ieee.{Float, binary64, of_bits}
use lib.ListN.{length, replicate, length-replicate}
use Rattle.paths.specs.Path.{most_vertices}
use Rattle.sieves.specs.Workings.Lines.{numbers_of_side, SidesKept, sides-kept, judged-few}
use Rattle.listing_outcomes.proofs.buffer.list_sieved.Statement.{statement}
use Rattle.listing_outcomes.proofs.buffer.list_sieved.Tie as tie

abbrev start : tie.After-sides-1 → tie.Start
start c = c.before.before.before.before.before.before

long : (z : Float) → length (replicate (most_vertices * numbers_of_side) z) ≡ most_vertices * numbers_of_side
long z = length-replicate (most_vertices * numbers_of_side) z

keep-sides-requires : tie.Need-keep_sides-requires
keep-sides-requires c κs =
    let p = (start c).requires in
    ((p.0.pairs.m-within, p.0.pairs.few-second), omega (arith, long (of_bits binary64 0), p.1))

-- what the sieve keeps
sides : (k : tie.After-keep_sides)
    → let a = (start k.before).args in SidesKept a.second.now k.keep_sides.new.sides a.job.epsilon a.job.m
sides k =
    let p = (start k.before).requires in
    sides-kept _ _ _ _ _ (omega (arith, long (of_bits binary64 0), p.1)) k.keep_sides.ensures

judged-requires : tie.Need-judged-lines-requires
judged-requires c κs =
    let k = c.before.before in ((start k.before).requires.0.pairs.few-second, (sides k).room)

mul-sieved-2 : tie.Need-overflow_mul-sieved-2
mul-sieved-2 c =
    let s = start c.before.before.before.before.before in
    let few = judged-few c.keep_sides.new.sides s.args.job.m s.args.job.m in
    omega (arith, c.judged-lines.ensures, few, s.requires.1)

list-by-requires : tie.Need-list_by-requires
list-by-requires c κs =
    let k = c.before.before.before.before.before.before.before in ((start k.before).requires.0, (λ e. sides k))

pub list_sieved_spec : {M : Type 1} → statement M
list_sieved_spec =
    tie.close
    (tie.spec
    (λ c. search rules) keep-sides-requires (λ c. search rules) judged-requires (λ c. search rules) mul-sieved-2
    (λ c. search rules) list-by-requires (λ c. search rules) (λ c. search rules) (λ c. search rules))
