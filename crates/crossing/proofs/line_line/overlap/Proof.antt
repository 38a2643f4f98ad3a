-- `crossing::line_line::overlap` meets its contract: each return is a branch of the definition, by the calls and tests before it.
use mathlib.Core.Path.{◌≡◌}
use mathlib.Core.Bool.{cond}
use borrow.Author.Rules.{rules}
use Rattle.floats.specs.Ops.{◌⊖◌, ◌⊗◌}
use Rattle.plane.specs.Fuzzy.{fuzzy_eq_zero_eps}
use Rattle.crossing.specs.LineLine.{overlap, touching_end}
use Rattle.float_laws.specs.Branches.{branches}
use Rattle.crossing.specs.declared.line_line_intr.LineLineIntr.TheVariants.{TrueIntersect, Overlapping}
use Rattle.crossing.proofs.line_line.overlap.Statement.{statement}
use Rattle.crossing.proofs.line_line.overlap.Tie as tie

-- past the first test: the definition, by the ends that the segments share and the length
shared : (c : tie.After-min-seg2_t1) →
    let a = c.args in
    let from = c.max-seg2_t0.result in
    let to = c.min-seg2_t1.result in
    overlap a.v1 a.u1 a.u2 a.u a.s a.eps
    ≡ cond (fuzzy_eq_zero_eps ((to ⊖ from) ⊗ c.length-seg2_length.result) a.eps)
    (TrueIntersect (touching_end a.v1 a.u1 a.u2 a.eps) from)
    (Overlapping from to)
unfolding overlap
shared c =
    simp (
      ← c.length-seg2_length.ensures,
      ← c.fuzzy_lt_eps.ensures,
      ← c.fuzzy_gt_eps.ensures,
      c.if-fuzzy_lt_eps-fuzzy_gt_eps.false,
      ← c.max-seg2_t0.ensures,
      ← c.min-seg2_t1.ensures,
    )

pub overlap_spec : {M : Type 1} → statement M
unfolding overlap
overlap_spec =
    tie.close
    (tie.spec
    (search rules) (search rules) (search rules)
    (λ c. simp (← c.length-seg2_length.ensures, ← c.fuzzy_lt_eps.ensures, ← c.fuzzy_gt_eps.ensures, c.if-fuzzy_lt_eps-fuzzy_gt_eps.true))
    (search rules) (search rules) (search rules) (search rules)
    (λ c. rw (shared c.before.before.before) (search branches))
    (λ c. rw (shared c.before.before) (search branches)))
