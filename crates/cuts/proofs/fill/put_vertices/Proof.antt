-- `cuts::fill::put_vertices` meets its contract: it writes the vertex, or the starts of the two halves, one behind the other.
use borrow.Author.Rules.{rules}
use Rattle.cuts.specs.Laws.Pieces.{put_whole, put-halves}
use Rattle.cuts.proofs.fill.put_vertices.Statement.{statement}
use Rattle.cuts.proofs.fill.put_vertices.Tie as tie

returns : tie.Need-returns-then-i-n
returns c =
    put-halves _ _ _ _ _ c.segment_from-s.ensures c.is_large.ensures _ _ c.if-i-n.true _ c.halve-h.ensures _ _
    c.put_vertex.ensures c.put_vertex-then-i-n.ensures

returns-2 : tie.Need-returns
returns-2 c =
    put_whole _ _ _ _ _ c.segment_from-s.ensures c.is_large.ensures _ _ c.if-i-n.false _
    c.put_vertex-2.ensures

pub put_vertices_spec : {M : Type 1} → statement M
put_vertices_spec =
    tie.close
    (tie.spec
    (λ c. search rules) (λ c. search rules) (λ c. search rules) (λ c. search rules) (λ c. search rules) (λ c. search rules)
    (λ c. search rules) (λ c. search rules) (λ c. search rules) returns
    (λ c. search rules) (λ c. search rules) (λ c. search rules) returns-2)
