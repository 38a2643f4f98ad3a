-- `listing_outcomes::boxed::boxed_in` meets its contract: 17 if the index does not fit; else the listing by boxes decides.
use mathlib.Core.Path.{refl}
use native.Mathlib.Omega.{arith}
use borrow.Author.Rules.{rules}
use Rattle.listing_pairs.specs.Workings.Job.{every}
use Rattle.listing_pairs.specs.Workings.Ready.{look_by}
use Rattle.listing_outcomes.specs.Workings.BoxedOutcome.{short-index, no_index}
use Rattle.listing_outcomes.proofs.boxed.boxed_in.Statement.{statement}
use Rattle.listing_outcomes.proofs.boxed.boxed_in.Tie as tie

abbrev start : tie.After-floats_for → tie.Start
start c = c.before.before.before.before.before.before.before

returns : tie.Need-returns-then-boxes-floats_for
returns c =
    let a = (start c.before.before).args in
    let short = short-index a.first.now a.second.now a.job _ _ c.floats_for.ensures c.if-boxes-floats_for.true in (
      no_index (look_by a.first.now a.second.now a.job) (every a.job) _ _ _ _ short _ c.whole.ensures,
      refl,
    )

list-by-boxes-requires : tie.Need-list_by_boxes-requires
list-by-boxes-requires c κs =
    let p = (start c.before.before.before.before.before).requires in
    (p.0, (p.1.0, (omega (arith, c.if-boxes-floats_for.false, c.floats_for.ensures), p.1.1)))

returns-2 : tie.Need-returns
returns-2 c =
    (c.list_by_boxes.ensures, c.list_by_boxes.auto.kept)

pub boxed_in_spec : {M : Type 1} → statement M
boxed_in_spec =
    tie.close
    (tie.spec
    (λ c κs. search rules) (λ c κs. search rules) returns list-by-boxes-requires
    (λ c. search rules) (λ c. search rules) (λ c. search rules) (λ c. search rules) returns-2)
