-- `fast_pair::kept::of_slant` meets its contract: its calls and tests lead to the branches of the definition.
use mathlib.Core.Path.{◌≡◌}
use mathlib.Core.Bool.{cond, ◌&&◌}
use borrow.Author.Rules.{rules}
use Rattle.floats.specs.Ops.{◌⊕◌, ◌⊗◌, ◌≺◌, f0}
use Rattle.fast_pair.specs.declared.kept.Kept.{Kept}
use Rattle.fast_pair.specs.Workings.Kept as workings
use Rattle.fast_pair.proofs.kept.of_slant.Statement.{statement}
use Rattle.fast_pair.proofs.kept.of_slant.Tie as tie

-- a line that is no point: its guess, if that is sound
guessed : (c : tie.After-moderate-2) → let a = c.args in
    let w = c.guess-w.result in
    let q = a.a ⊗ a.a ⊕ a.b ⊗ a.b in
    ◌≡◌ {A = Kept}
    (record {
      radius_or_slope = a.a;
      center_x_or_root = cond ((c.moderate.result && c.moderate-2.result) && (q ≺ w ⊗ w)) w workings.no_guess;
      center_y_or_zero = f0;
      chord_or_zero = f0;
    })
    (workings.of_slant a.a a.b a.point)
unfolding workings.of_slant
guessed c =
    simp (
      ← c.abs.ensures,
      ← c.abs-2.ensures,
      ← c.guess-w.ensures,
      c.if-point.false,
      ← c.moderate.ensures,
      ← c.moderate-2.ensures,
    )

pub of_slant_spec : {M : Type 1} → statement M
unfolding workings.of_slant
of_slant_spec =
    tie.close
    (tie.spec
    (λ c. search rules) (λ c. search rules) (λ c. search rules)
    (λ c. simp c.if-point.true)
    (λ c. search rules) (λ c. search rules)
    (λ c. simp c.if-moderate-q.true at (guessed c.before))
    (λ c. simp c.if-moderate-q.false at (guessed c.before)))
