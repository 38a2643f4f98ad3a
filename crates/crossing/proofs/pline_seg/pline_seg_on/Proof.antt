-- `crossing::pline_seg::pline_seg_on` meets its contract: each kind of pair goes to its function, on the circles that were given.
use mathlib.Core.Path.{◌≡◌, sym, ◌∙◌}
use mathlib.Core.Bool.{true, false}
use borrow.Author.Rules.{rules}
use Rattle.plane.specs.PlineVertex.{pos}
use Rattle.crossing.specs.LineArc.{process_line_arc_intr}
use Rattle.crossing.specs.PlineSeg.{process_line_line_intr, pline_seg}
use Rattle.crossing.proofs.pline_seg.pline_seg_on.Statement.{statement}
use Rattle.crossing.proofs.pline_seg.pline_seg_on.Tie as tie

-- what the function of each kind said
lines : (c : tie.After-process_line_line_intr) →
    let a = c.args in
    c.process_line_line_intr.result
    ≡ process_line_line_intr (pos a.v1) (pos a.v2) (pos a.u1) (pos a.u2) a.pos_equal_eps
lines c =
    simp (
      ← c.pos.ensures,
      ← c.pos-then-u_is_line.ensures,
      ← c.pos-then-u_is_line-2.ensures,
      ← c.pos-then-u_is_line-3.ensures,
      ← c.process_line_line_intr.ensures,
    )

line_first : (c : tie.After-process_line_arc_intr) →
    let a = c.args in
    c.process_line_arc_intr.result
    ≡ process_line_arc_intr (pos a.v1) (pos a.v2) a.u1 a.u2 false a.pos_equal_eps
line_first c =
    simp (← c.pos-then-v_is_line.ensures, ← c.pos-then-v_is_line-2.ensures, ← c.process_line_arc_intr.ensures)

line_second : (c : tie.After-process_line_arc_intr-then-u_is_line-2) →
    let a = c.args in
    c.process_line_arc_intr-then-u_is_line-2.result
    ≡ process_line_arc_intr (pos a.u1) (pos a.u2) a.v1 a.v2 true a.pos_equal_eps
line_second c =
    simp (← c.pos-then-u_is_line-2-2.ensures, ← c.pos-then-u_is_line-2-3.ensures, ← c.process_line_arc_intr-then-u_is_line-2.ensures)

-- the circle of a segment that is no line
process-line-arc-intr-requires : tie.Need-process_line_arc_intr-requires
process-line-arc-intr-requires c κs =
    c.requires.1 (sym c.bulge_is_zero-u_is_line.ensures ∙ c.if-u_is_line.false)

process-line-arc-intr-requires-2 : tie.Need-process_line_arc_intr-requires-then-u_is_line-2
process-line-arc-intr-requires-2 c κs =
    c.requires.0 (sym c.bulge_is_zero-v_is_line.ensures ∙ c.if-v_is_line.false)

arc-arc-requires : tie.Need-arc_arc-requires
arc-arc-requires c κs = (
  c.requires.0 (sym c.bulge_is_zero-v_is_line.ensures ∙ c.if-v_is_line.false),
  c.requires.1 (sym c.bulge_is_zero-u_is_line.ensures ∙ c.if-u_is_line-2.false),
)

pub pline_seg_on_spec : {M : Type 1} → statement M
unfolding pline_seg
pline_seg_on_spec =
    tie.close
    (tie.spec
    (λ c. search rules) (λ c. search rules)
    (λ c. search rules) (λ c. search rules) (λ c. search rules) (λ c. search rules) (λ c. search rules)
    (λ c. simp (← c.bulge_is_zero-v_is_line.ensures, ← c.bulge_is_zero-u_is_line.ensures, c.if-v_is_line.true, c.if-u_is_line.true, ← lines c))
    (λ c. search rules) (λ c. search rules) process-line-arc-intr-requires
    (λ c. simp (← c.bulge_is_zero-v_is_line.ensures, ← c.bulge_is_zero-u_is_line.ensures, c.if-v_is_line.true, c.if-u_is_line.false, ← line_first c))
    (λ c. search rules) (λ c. search rules) process-line-arc-intr-requires-2
    (λ c. simp (
      ← c.bulge_is_zero-v_is_line.ensures,
      ← c.bulge_is_zero-u_is_line.ensures,
      c.if-v_is_line.false,
      c.if-u_is_line-2.true,
      ← line_second c,
    ))
    arc-arc-requires
    (λ c. simp (
      ← c.bulge_is_zero-v_is_line.ensures,
      ← c.bulge_is_zero-u_is_line.ensures,
      c.if-v_is_line.false,
      c.if-u_is_line-2.false,
      ← c.arc_arc.ensures,
    )))
