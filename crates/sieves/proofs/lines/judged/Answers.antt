-- Each turn counts one segment or not.
use Rattle.std.proofs.Common.{◌≡◌, ℕ, ◌+◌, refl, ap, ◌∙◌, arith}
use Rattle.sieves.specs.Workings.Lines.{judged, judged-few, judged-turn}
use Rattle.sieves.proofs.lines.judged.Goals as goal
use Rattle.sieves.proofs.lines.judged.Goals.{then-side, else-side}

pub loop-j-init : goal.loop-j-init
unfolding judged
loop-j-init c = refl

pub overflow_add-count : goal.overflow_add-count
overflow_add-count c =
    omega (arith, c.loop-j.invariant, c.loop-j-test.true, judged-few c.args.sides.now c.args.n c.loop-j.j, c.requires.0)

pub loop-j-preserved : goal.loop-j-preserved
loop-j-preserved c =
    elim c.if-side.branch [
      | then-side w ↦ w.count-is ∙ ap (λ (k : ℕ). k + 1) c.loop-j.invariant ∙ judged-turn _ _ _ _ _ c.side_at-side.ensures w.if-side.true
      | else-side w ↦ w.count-is ∙ c.loop-j.invariant ∙ judged-turn _ _ _ _ _ c.side_at-side.ensures w.if-side.false
    ]

pub returns : goal.returns
returns c =
    let all : c.loop-j.j ≡ c.args.n = omega (arith, c.loop-j.auto.j-end, c.loop-j-test.false) in
    c.loop-j.invariant ∙ ap (judged _ _) all
