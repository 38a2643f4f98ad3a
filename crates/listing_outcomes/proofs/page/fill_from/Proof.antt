-- `listing_outcomes::page::fill_from` meets its contract: what is kept is that of the segments that the page can reach, and the
-- rest is the loop's.
use mathlib.Core.Path.{sym}
use mathlib.Core.Bool.{true≢false}
use native.Mathlib.Omega.{arith}
use borrow.Author.Rules.{rules}
use Rattle.listing_pairs.specs.Workings.Tracks.{call_length, call-tracked}
use Rattle.listing_pairs.specs.Workings.Reached.{reached-ready}
use Rattle.sieves.specs.Workings.Marks.{no-recall}
use Rattle.listing_outcomes.specs.Workings.PageOutcome.{from-none}
use Rattle.listing_outcomes.proofs.page.fill_from.Statement.{statement}
use Rattle.listing_outcomes.proofs.page.fill_from.Tie as tie

abbrev start : tie.After-keep_traces → tie.Start
start t = t.before.before.before.before.before.before.before

keep-traces-requires : tie.Need-keep_traces-requires
keep-traces-requires c κs =
    let p = c.requires in
    ((p.0.m-within, p.0.few-second), omega (arith, p.1.1.0))

keep-reached-requires : tie.Need-keep_reached-requires
keep-reached-requires c κs =
    let t = c.before.before.before in
    let p = (start t).requires in
    let same = call_length _ _ _ _ t.keep_traces.ensures in
    (p.0.m-within, ((p.0.few, p.0.few-second), omega (arith, same, p.1.1.0)))

fill-requires : tie.Need-fill-requires
fill-requires c κs =
    let t = c.before.before.before.before.before.before.before.before.before in
    let is = t.keep_traces.ensures in
    let p = (start t).requires in (
      reached-ready _ _ _ _ _ _ _ _ p.0 p.1.0 (omega (arith, call_length _ _ _ _ is, p.1.1.0))
          (call-tracked _ _ _ _ is p.0.few-second (omega (arith, p.1.1.0))) c.keep_reached.ensures,
      (
        (p.1.1.1.0, omega arith),
        (p.1.1.1.1, ((λ e. absurd (true≢false (sym e))), no-recall _ _ _ _ _ (omega arith))),
      ),
    )

returns : tie.Need-returns
returns c = from-none _ _ _ _ _ _ _ _ _ _ _ c.fill.ensures.0

pub fill_from_spec : {M : Type 1} → statement M
fill_from_spec =
    tie.close
    (tie.spec
    keep-traces-requires keep-reached-requires (λ c. search rules) fill-requires (λ c. search rules) (λ c. search rules) (λ c. search rules)
    returns)
