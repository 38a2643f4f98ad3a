-- `fast_pair::pair::pline_seg_intr` meets its contract: if the quick test finds all numbers fine, so does the check, and the
-- answer is how the segments meet; else the numbers are checked one by one.
use Rattle.std.specs.Prelude.{Ok}
use mathlib.Core.Path.{◌≡◌, sym, ap, ◌∙◌}
use lib.Ieee.{Float}
use denote.Floats.{passes}
use borrow.Author.Rules.{rules}
use Rattle.plane.specs.declared.pline_vertex.PlineVertex.{PlineVertex}
use Rattle.checks.specs.Calls.{check_pline_seg}
use Rattle.crossing.specs.PlineSeg.{pline_seg}
use Rattle.crossing.specs.PlineSegIntersect.{pline_seg_intr}
use Rattle.arcs.specs.declared.pline_seg_intr.PlineSegIntr.{PlineSegIntr}
use Rattle.fast_pair.specs.Laws.AllFine.{fine-by-tests}
use Rattle.fast_pair.proofs.pair.pline_seg_intr.Statement.{statement}
use Rattle.fast_pair.proofs.pair.pline_seg_intr.Tie as tie

met : (v1 v2 u1 u2 : PlineVertex) (eps : Float) (r : PlineSegIntr) → check_pline_seg v1 v2 u1 u2 eps ≡ Ok tt
    → r ≡ pline_seg v1 v2 u1 u2 eps → Ok r ≡ pline_seg_intr v1 v2 u1 u2 eps
unfolding pline_seg_intr
met v1 v2 u1 u2 eps r h e = rw h (ap Ok e)

all-fine : (c : tie.Then-pair_fine)
    → let a = c.args in
    check_pline_seg a.v1 a.v2 a.u1 a.u2 a.pos_equal_eps ≡ Ok tt
all-fine c = fine-by-tests _ _ _ _ _ (passes _ (sym c.pair_fine.ensures ∙ c.if-pair_fine.true))

pline-seg-once-requires : tie.Need-pline_seg_once-requires
pline-seg-once-requires c κs = all-fine c

returns : tie.Need-returns-then-pair_fine
returns c = met _ _ _ _ _ _ (all-fine c.before) c.pline_seg_once.ensures

pub pline_seg_intr_spec : {M : Type 1} → statement M
pline_seg_intr_spec =
    tie.close (tie.spec (search rules) pline-seg-once-requires returns (search rules) (λ c. search rules))
