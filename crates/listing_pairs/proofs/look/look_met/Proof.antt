-- `listing_pairs::look::look_met` meets its contract: a pair that meets is asked for a joint first.
use borrow.Author.Rules.{rules}
use Rattle.listing_pairs.specs.Workings.Ready.{at-a-joint, elsewhere}
use Rattle.listing_pairs.proofs.look.look_met.Statement.{statement}
use Rattle.listing_pairs.proofs.look.look_met.Tie as tie

abbrev start : tie.After-at_joint → tie.Start
start c = c.before.before

pub look_met_spec : {M : Type 1} → statement M
look_met_spec =
    tie.close
    (tie.spec
    (λ c κs. search rules)
    (λ c.
    let a = (start c.before).args in
    at-a-joint a.second.now a.job a.i a.j a.met _ c.at_joint.ensures c.if-at_joint.true)
    (λ c κs. search rules)
    (λ c.
    let a = (start c.before.before).args in
    elsewhere a.second.now a.job a.i a.j a.met _ c.at_joint.ensures c.if-at_joint.false _
    c.look_of.ensures))
