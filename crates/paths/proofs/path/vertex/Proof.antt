-- `paths::path::vertex` meets its contract: the numbers that it reads lie in the slice, since whole vertices up to this one do.
use borrow.Author.Rules.{rules}
use Rattle.paths.specs.Path
use Rattle.paths.proofs.path.vertex.Statement.{statement}
use Rattle.paths.proofs.path.vertex.Tie as tie

pub vertex_spec : {M : Type 1} → statement M
unfolding Path.vertex
vertex_spec =
    tie.close
    (tie.spec
    (λ c. search rules) (λ c. search rules) (λ c. search rules) (λ c. search rules) (λ c. search rules) (λ c. search rules)
    (λ c. search rules) (λ c. search rules) (λ c. search rules) (λ c. search rules)
    (λ c. simp c.new.ensures))
