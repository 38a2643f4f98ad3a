-- A chain of pages of the mode of large arcs, as Chain.antt of the crate `listing_calls` has it for the old mode: calls one after
-- the other, each at the position that the one before answered. The rows that are read and joined have five whole numbers.
use Rattle.std.specs.Prelude.{true, false, List, [], ◌∷◌, ◌++◌, ℕ, ◌+◌, ◌*◌, Float, take, Err, Ok}
use Rattle.listing_pairs.specs.Row.{points_a_row}
use Rattle.listing_outcomes.specs.Answer.{PageAnswer}
use Rattle.listing_outcomes.specs.Outcome.{Outcome}
use Rattle.listing_calls.specs.Chain.{Lent, Joined, no_call}
use Rattle.large_outcomes.specs.LargeRow.{large_indices_a_row}

-- a call by its answer and what its slices hold after it, and then the rest of the chain from the next position on
abbrev pub large_joined : PageAnswer → List ℕ → List Float → (ℕ → Joined) → Joined
large_joined (Err n) indices points rest =
    record { refused = true; next = 0; rows = 0; pairs = 0; indices = []; points = [] }
large_joined (Ok counts) indices points rest =
    let more = rest counts.next in
    record {
      refused = more.refused;
      next = more.next;
      rows = counts.rows + more.rows;
      pairs = counts.pairs + more.pairs;
      indices = take (counts.rows * large_indices_a_row) indices ++ more.indices;
      points = take (counts.rows * points_a_row) points ++ more.points;
    }

-- the chain of as many calls as there are lent things; `call` says what a call at a position leaves
abbrev pub large_chain : (ℕ → Lent → Outcome PageAnswer) → ℕ → List Lent → Joined
large_chain call position [] = no_call position
large_chain call position (l ∷ more) =
    let o = call position l in large_joined o.answer o.indices o.points (λ next. large_chain call next more)
