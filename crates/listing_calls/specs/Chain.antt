-- A chain of pages: calls one after the other, each at the position that the one before answered. The rows of a call are read
-- from its lent slices, as its answer says how many they are, and joined to those of the calls before it.
use Rattle.std.specs.Prelude.{Bool, true, false, List, [], ◌∷◌, ◌++◌, ℕ, ◌+◌, ◌-◌, ◌*◌, ◌<◌, Float, take, drop, Err, Ok}
use Rattle.listing_pairs.specs.Order.{Pair}
use Rattle.listing_pairs.specs.Row.{indices_a_row, points_a_row}
use Rattle.listing_outcomes.specs.Answer.{PageAnswer}
use Rattle.listing_outcomes.specs.Outcome.{Outcome}

-- what a caller lends to one call: its budget, and the slices as they are then
pub record Lent : Type 0 where
  pub budget : ℕ
  pub indices : List ℕ
  pub points : List Float

-- what a chain gave: whether a call was refused, the position after the last call, how many rows were written and how many pairs
-- passed, and the numbers of the rows
pub record Joined : Type 0 where
  pub refused : Bool
  pub next : ℕ
  pub rows : ℕ
  pub pairs : ℕ
  pub indices : List ℕ
  pub points : List Float

-- no call
abbrev pub no_call : ℕ → Joined
no_call position = record { refused = false; next = position; rows = 0; pairs = 0; indices = []; points = [] }

-- a call by its answer and what its slices hold after it, and then the rest of the chain from the next position on
abbrev pub joined : PageAnswer → List ℕ → List Float → (ℕ → Joined) → Joined
joined (Err n) indices points rest = record { refused = true; next = 0; rows = 0; pairs = 0; indices = []; points = [] }
joined (Ok counts) indices points rest =
    let more = rest counts.next in
    record {
      refused = more.refused;
      next = more.next;
      rows = counts.rows + more.rows;
      pairs = counts.pairs + more.pairs;
      indices = take (counts.rows * indices_a_row) indices ++ more.indices;
      points = take (counts.rows * points_a_row) points ++ more.points;
    }

-- the chain of as many calls as there are lent things; `call` says what a call at a position leaves
abbrev pub chain : (ℕ → Lent → Outcome PageAnswer) → ℕ → List Lent → Joined
chain call position [] = no_call position
chain call position (l ∷ more) =
    let o = call position l in joined o.answer o.indices o.points (λ next. chain call next more)

-- every call of the chain is made before the end, which is as many pairs as there are
abbrev pub BeforeEnd : PageAnswer → (ℕ → Type 0) → Type 0
BeforeEnd (Err n) rest = Unit {0}
BeforeEnd (Ok counts) rest = rest counts.next

abbrev pub Before : ℕ → (ℕ → Lent → Outcome PageAnswer) → ℕ → List Lent → Type 0
Before end call position [] = Unit {0}
Before end call position (l ∷ more) =
    (position < end) × BeforeEnd (call position l).answer (λ next. Before end call next more)

-- the pairs from a position on, up to another
abbrev pub between : ℕ → ℕ → List Pair → List Pair
between from to ps = take (to - from) (drop from ps)
