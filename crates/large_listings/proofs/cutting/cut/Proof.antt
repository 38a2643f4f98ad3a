-- `large_listings::cutting::cut` meets its contract: what each call wrote stands at the front of its slice.
use borrow.Author.Rules.{rules}
use Rattle.large_listings.specs.Laws.Cutting.{cut-done}
use Rattle.large_listings.proofs.cutting.cut.Statement.{statement}
use Rattle.large_listings.proofs.cutting.cut.Tie as tie

abbrev start : tie.After-cut_into-n → tie.Start
start c = c.before.before.before.before.before

names-into-requires : tie.Need-names_into-k-requires
names-into-requires c κs = (start c.before.before.before).requires.names-fit

returns : tie.Need-returns
returns c =
    let f = c.before.before.before.before.before.before in
    cut-done _ _ _ _ _ _ _ _ f.cut_into-n.ensures c.names_into-k.ensures (start f).requires

pub cut_spec : {M : Type 1} → statement M
cut_spec =
    tie.close
    (tie.spec
    (λ c κs. c.requires.floats-fit) names-into-requires (λ c. search rules) (λ c. search rules)
    returns)
