-- Each turn takes the pairs of one segment off the position.
use Rattle.std.proofs.Common.{◌≡◌, ℕ, sym, ap, ◌∙◌, arith}
use Rattle.listing_pairs.specs.Workings.Job.{from}
use Rattle.listing_pairs.specs.Workings.Position.{locating-starts, locating-few, locating-here, locating-turn, locating-ends}
use Rattle.listing_pairs.proofs.order.locate.Goals as goal

pub loop-i-init : goal.loop-i-init
loop-i-init c = locating-starts _ _

pub overflow_add-result : goal.overflow_add-result
overflow_add-result c =
    let few = locating-few _ c.loop-i.invariant c.loop-i-test.true c.pairs_at-here.ensures _ c.from.ensures
    c.if-rest-here.true in
    omega (arith, few, c.requires.1)

pub returns-then-rest-here : goal.returns-then-rest-here
returns-then-rest-here c =
    locating-here _ c.loop-i.invariant c.loop-i-test.true c.pairs_at-here.ensures _ c.from.ensures c.if-rest-here.true

pub loop-i-preserved : goal.loop-i-preserved
loop-i-preserved c =
    locating-turn _ c.loop-i.invariant c.loop-i-test.true c.pairs_at-here.ensures c.if-rest-here.false

pub returns : goal.returns
returns c =
    let all : c.loop-i.i ≡ c.args.job.n = omega (arith, c.loop-i.invariant.within, c.loop-i-test.false) in
    let start = c.from-2.ensures ∙ ap (from c.args.job) (sym all) in
    ap (λ (k : ℕ). record { i = k; j = c.from-2.result }) (sym all)
    ∙ locating-ends _ c.loop-i.invariant c.loop-i-test.false start
