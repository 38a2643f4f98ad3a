-- `listing_pairs::joint::at_joint` meets its contract: each return is a case of the definition.
use mathlib.Core.Path.{ap}
use mathlib.Core.Path.{◌≡◌}
use mathlib.Core.Bool.{false, not}
use borrow.Author.Rules.{rules}
use Rattle.listing_pairs.specs.Workings.Joint as joint
use Rattle.listing_pairs.proofs.joint.at_joint.Statement.{statement}
use Rattle.listing_pairs.proofs.joint.at_joint.Tie as tie

-- at the match: the listing is of one path
abbrev start : tie.Else-not-next-closing → tie.Start
start c = c.before.before.before.before.before.before

own : (c : tie.Else-not-next-closing) → not (start c).args.job.own ≡ false
own c = c.if-not-job.false

pub at_joint_spec : {M : Type 1} → statement M
at_joint_spec =
    tie.close
    (tie.spec
    (λ c. let a = c.args in
    joint.of-two-paths a.path.now a.job a.i a.j a.met c.if-not-job.true)
    (λ c. search rules) (λ c. search rules)
    (λ c. let a = c.args in
    joint.shares-none a.path.now a.job a.i a.j a.met c.if-not-job.false (ap not c.if-not-next-closing.true))
    (λ c. search rules) (λ c. search rules) (λ c κs. search rules) (λ c. search rules) (λ c κs. search rules)
    (λ c. search rules) (λ c κs. search rules) (λ c κs. search rules) (λ c. search rules) (λ c. search rules)
    (λ c. let e = c.before in
    let a = (start e).args in
    joint.meets-none a.path.now a.job a.i a.j a.met (own e) c.in-NoIntersect.is)
    (λ c. let e = c.before.before in
    let a = (start e).args in
    joint.meets-tangent a.path.now a.job a.i a.j a.met (own e) _ _ c.in-TangentIntersect.is c.near_some.ensures)
    (λ c. let e = c.before.before in
    let a = (start e).args in
    joint.meets-one a.path.now a.job a.i a.j a.met (own e) _ _ c.in-OneIntersect.is c.near_some-in-OneIntersect.ensures)
    (λ c. let e = c.before.before.before in
    let a = (start e).args in
    joint.meets-two a.path.now a.job a.i a.j a.met (own e) _ _ _ _ c.in-TwoIntersects.is
    c.near_some-first.ensures c.near_some-second.ensures)
    (λ c. let e = c.before in
    let a = (start e).args in
    joint.meets-lines a.path.now a.job a.i a.j a.met (own e) _ _ c.in-OverlappingLines.is)
    (λ c. let e = c.before in
    let a = (start e).args in
    joint.meets-arcs a.path.now a.job a.i a.j a.met (own e) _ _ c.in-OverlappingArcs.is))
