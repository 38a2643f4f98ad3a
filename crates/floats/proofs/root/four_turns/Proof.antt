-- `floats::root::four_turns` meets its contract: it is four turns in a row, and each leaves a root under way.
use Rattle.floats.specs.Workings.Root
use Rattle.floats.specs.Laws.Turns.{Going, fits, after}
use Rattle.floats.proofs.root.four_turns.Statement.{statement}
use Rattle.floats.proofs.root.four_turns.Tie as tie

at1 : (c : tie.After-turn-s1) → Going 3 c.turn-s1.result
at1 c = after 3 _ _ c.turn-s1.ensures c.before.requires

at2 : (c : tie.After-turn-s2) → Going 2 c.turn-s2.result
at2 c = after 2 _ _ c.turn-s2.ensures (at1 c.before)

at3 : (c : tie.After-turn-s3) → Going 1 c.turn-s3.result
at3 c = after 1 _ _ c.turn-s3.ensures (at2 c.before)

returns : tie.Need-returns
unfolding Root.four_turns
returns c =
    let c3 = c.before in
    let c2 = c3.before in
    simp (c.turn.ensures, c3.turn-s3.ensures, c2.turn-s2.ensures, c2.before.turn-s1.ensures)

pub four_turns_spec : {M : Type 1} → statement M
four_turns_spec =
    tie.close
    (tie.spec
    (λ c κs. fits c.requires.1.1)
    (λ c κs. fits (at1 c).1.1)
    (λ c κs. fits (at2 c).1.1)
    (λ c κs. fits (at3 c).1.1)
    returns)
