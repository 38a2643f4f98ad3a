-- `listing_pairs::keeping::keep_reached` meets its contract: each return is a branch of the definition, by the tests that led to
-- it.
use mathlib.Core.Path.{refl, sym}
use native.Mathlib.Nat.{le_refl}
use borrow.Author.Rules.{rules}
use Rattle.listing_pairs.specs.Workings.Reached.{
  reached-none,
  may-keep,
  less-most,
  room-left,
  not-here,
  stored_here,
  stored-beyond,
}
use Rattle.listing_pairs.proofs.keeping.keep_reached.Statement.{statement}
use Rattle.listing_pairs.proofs.keeping.keep_reached.Tie as tie

abbrev start : tie.After-less-spent → tie.Start
start c = c.before.before.before.before.before

keep-requires : tie.Need-keep-requires
keep-requires c κs =
    let s = start c.before.before.before.before in
    may-keep (less-most _ (le_refl _)) s.requires.0 s.requires.1.0.1 s.requires.1.1

returns-2 : tie.Need-returns-then-budget-spent
returns-2 c =
    stored_here _ _ _ _ _ _ c.if-job-i.false refl c.less-spent.ensures c.if-budget-spent.true c.less.ensures c.keep.ensures

sub-less : tie.Need-overflow_sub-budget
sub-less c =
    let s = start c.before.before.before.before in
    not-here s.args.job s.args.i _ _ c.if-budget-spent.false

keep-requires-2 : tie.Need-keep-requires-2
keep-requires-2 c κs =
    let s = start c.before.before.before.before.before.before.before.before in
    may-keep (less-most _ (le_refl _)) s.requires.0 s.requires.1.0.1 s.requires.1.1

keep-requires-3 : tie.Need-keep-requires-3
keep-requires-3 c κs =
    let s = start c.before.before.before.before.before.before.before.before.before.before.before.before.before in
    may-keep (le_refl _) s.requires.0 s.requires.1.0.1 (room-left _ _ _ _ _ _ c.keep-2.ensures s.requires.1.1)

returns-3 : tie.Need-returns
returns-3 c =
    stored-beyond _ _ _ _ _ _ c.if-job-i.false refl c.less-spent.ensures c.if-budget-spent.false
    c.from-low.ensures c.less-2.ensures c.less-3.ensures c.lesser.ensures c.keep-2.ensures
    c.greater.ensures c.keep-3.ensures

pub keep_reached_spec : {M : Type 1} → statement M
keep_reached_spec =
    tie.close
    (tie.spec
    (λ c. sym (reached-none _ _ _ _ _ _ c.if-job-i.true))
    (λ c κs. search rules) (λ c. search rules) (λ c κs. search rules) (λ c. search rules)
    keep-requires (λ c. search rules) returns-2
    (λ c. search rules) (λ c κs. search rules) (λ c κs. search rules) sub-less (λ c κs. search rules)
    (λ c. search rules) (λ c κs. search rules) keep-requires-2 (λ c κs. search rules) keep-requires-3
    (λ c. search rules) returns-3)
