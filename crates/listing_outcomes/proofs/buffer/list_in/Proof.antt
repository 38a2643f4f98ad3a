-- `listing_outcomes::buffer::list_in` meets its contract: what is kept is that of the second path's segments, and the listing is
-- that of `list_kept`.
use mathlib.Core.Path.{◌∙◌}
use native.Mathlib.Omega.{arith}
use borrow.Author.Rules.{rules}
use Rattle.listing_pairs.specs.Workings.Tracks.{call_length, call-tracked}
use Rattle.listing_pairs.specs.Workings.Reached.{kept-ready}
use Rattle.listing_outcomes.proofs.buffer.list_in.Statement.{statement}
use Rattle.listing_outcomes.proofs.buffer.list_in.Tie as tie

abbrev start : tie.After-keep_traces → tie.Start
start t = t.before.before.before.before.before.before.before

keep-traces-requires : tie.Need-keep_traces-requires
keep-traces-requires c κs =
    let p = c.requires in
    ((p.0.m-within, p.0.few-second), omega (arith, p.1.1))

keep-requires : tie.Need-keep-requires
keep-requires c κs =
    let t = c.before.before.before in
    let p = (start t).requires in
    let same = call_length _ _ _ _ t.keep_traces.ensures in
    (p.0.m-within, (p.0.few-second, omega (arith, same, p.1.1)))

list-kept-requires : tie.Need-list_kept-requires
list-kept-requires c κs =
    let t = c.before.before.before.before.before.before.before.before in
    let p = (start t).requires in
    let is = t.keep_traces.ensures in
    kept-ready _ _ _ _ _ p.0 p.1.0 (omega (arith, call_length _ _ _ _ is, p.1.1))
    (call-tracked _ _ _ _ is p.0.few-second (omega (arith, p.1.1))) c.keep.ensures

-- `kept` is as long as it was
returns : tie.Need-returns
returns c =
    (c.list_kept.ensures, c.keep.auto.kept ∙ c.keep_traces.auto.kept)

pub list_in_spec : {M : Type 1} → statement M
list_in_spec =
    tie.close
    (tie.spec
    keep-traces-requires keep-requires list-kept-requires
    (λ c. search rules) (λ c. search rules) (λ c. search rules) returns)
