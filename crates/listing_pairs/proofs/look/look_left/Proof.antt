-- `listing_pairs::look::look_left` meets its contract: the pair call's own check finds no fault in the pair, so the call may be made;
-- and if the two meet, `look_met` says what that gives.
use mathlib.Core.Path.{◌≡◌, sym, ap, ◌∙◌}
use borrow.Author.Rules.{rules}
use native.Mathlib.Omega.{arith}
use Rattle.crossing.specs.PlineSeg.{pline_seg}
use Rattle.paths.specs.declared.path.Segment.{Segment}
use Rattle.paths.specs.Segments.{segment_from}
use Rattle.listing_pairs.specs.Workings.Keeping.{of_segment}
use Rattle.listing_pairs.specs.Workings.Ready.{apart, given}
use Rattle.listing_pairs.proofs.look.look_left.Statement.{statement}
use Rattle.listing_pairs.proofs.look.look_left.Tie as tie

kept-at-requires : tie.Need-kept_at-u_kept-requires
kept-at-requires c κs =
    omega (arith, c.requires.1.0.room)

pline-seg-left-requires : tie.Need-pline_seg_left-met-requires
pline-seg-left-requires c κs =
    let h = c.requires in (
      rw c.segment_from-u.ensures (h.0.fine c.args.j h.1.1.1.0),
      (
        h.1.1.0,
        c.kept_at-u_kept.ensures ∙ h.1.0.is
            ∙ ap (λ (u : Segment). of_segment u c.args.job.epsilon) (sym c.segment_from-u.ensures),
      ),
    )

look-met-requires : tie.Need-look_met-requires
look-met-requires c κs =
    (c.requires.1.1.1.1, omega (arith, c.requires.0.m-within, c.requires.1.1.1.0))

-- how the two segments meet
met : (c : tie.After-pline_seg_left-met)
    → let a = c.args in
    let u = segment_from a.second.now a.j in
    c.pline_seg_left-met.result ≡ pline_seg a.v.v1 a.v.v2 u.v1 u.v2 a.job.epsilon
met c =
    let a = c.args in
    c.pline_seg_left-met.ensures
    ∙ ap (λ (u : Segment). pline_seg a.v.v1 a.v.v2 u.v1 u.v2 a.job.epsilon)
    c.segment_from-u.ensures

returns : tie.Need-returns-in-NoIntersect
returns c =
    let k = c.before in
    let a = k.args in
    apart a.v a.second.now a.job a.i a.j _ (met k) c.in-NoIntersect.is

returns-2 : tie.Need-returns
returns-2 c =
    let k = c.before.before in
    let a = k.args in
    given a.v a.second.now a.job a.i a.j _ (met k) _ c.look_met.ensures

pub look_left_spec : {M : Type 1} → statement M
look_left_spec =
    tie.close
    (tie.spec
    (λ c. search rules) kept-at-requires pline-seg-left-requires (λ c. search rules) returns look-met-requires returns-2)
