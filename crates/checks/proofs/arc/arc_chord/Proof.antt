-- `checks::arc::arc_chord` meets its contract: after the first test it is the check of the computed chord; a chord that is long
-- enough by its dot product with itself passes that check (Laws/Chord).
use mathlib.Core.Path.{◌≡◌, refl}
use borrow.Author.Rules.{rules}
use Rattle.float_laws.specs.Branches.{said-so}
use Rattle.plane.specs.Vector2 as vector2
use Rattle.checks.specs.declared.fault.Item.TheVariants.{Chord}
use Rattle.checks.specs.Fault.{at}
use Rattle.checks.specs.Each
use Rattle.checks.specs.Arc
use Rattle.checks.specs.Laws.Chord.{long-fine}
use Rattle.checks.proofs.arc.arc_chord.Statement.{statement}
use Rattle.checks.proofs.arc.arc_chord.Tie as tie

of-arc : (c : tie.After-sub-chord)
    → (let a = c.before.before.before.before.before.args in
    Arc.arc_chord a.a a.b a.owner a.index
    ≡ Each.chord (vector2.length c.sub-chord.result) (at a.owner a.index Chord))
unfolding Arc.arc_chord
of-arc c =
    let ends = c.before.before in
    let test = ends.before in
    simp (
      ← test.bulge_is_zero.ensures,
      test.if-bulge_is_zero.false,
      ← ends.pos.ensures,
      ← c.pos-2.ensures,
      ← c.sub-chord.ensures,
    )

returns : tie.Need-returns-then-bulge_is_zero
unfolding Arc.arc_chord
returns c = said-so _ _ _ _ _ c.bulge_is_zero.ensures c.if-bulge_is_zero.true refl

pub arc_chord_spec : {M : Type 1} → statement M
arc_chord_spec =
    tie.close
    (tie.spec
    (λ c. search rules) returns (λ c. search rules) (λ c. search rules) (λ c. search rules) (λ c. search rules)
    (λ c. let s = c.before in
    simp (of-arc s.before, long-fine _ _ s.length_squared.ensures c.if-length_squared.true))
    (λ c. search rules) (λ c. search rules) (λ c. search rules)
    (λ c. let l = c.before.before in
    simp (of-arc l.before.before.before, l.length.ensures, c.at.ensures, c.chord.ensures)))
