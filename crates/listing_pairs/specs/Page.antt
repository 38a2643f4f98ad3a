-- A page of a listing: from the front of a sequence of pairs on, a pair is passed until the budget is spent, the sequence ends,
-- or the next pair makes a row and no row is left. `look` says what a pair gives; any will do.
use Rattle.std.specs.Prelude.{List, [], ◌∷◌, ℕ, zero, suc}
use Rattle.listing_pairs.specs.declared.row.Row.{Row}
use Rattle.listing_pairs.specs.declared.row.Look.{Look}
use Rattle.listing_pairs.specs.declared.row.Look.TheVariants.{Skipped, Nothing, Made}
use Rattle.listing_pairs.specs.Order.{Pair}
use Rattle.listing_pairs.specs.Rows.{onto, count}

-- its rows; how many pairs were passed, and how many of these were looked at; and the pairs that remain
pub record Page : Type 0 where
  pub rows : List Row
  pub passed : ℕ
  pub looked : ℕ
  pub rest : List Pair

-- no pair is passed
abbrev pub stop : List Pair → Page
stop ps = record { rows = []; passed = 0; looked = 0; rest = ps }

-- a pair that gives `s` is passed, and then a page
abbrev pub pass : Look → Page → Page
pass s q =
    record { rows = onto s q.rows; passed = suc q.passed; looked = count s q.looked; rest = q.rest }

-- One pair, within the budget. `here` remains if the page stops before it; `go` is the page of the pairs after it, by the room
-- that is left for rows.
abbrev pub turn : Look → List Pair → (ℕ → Page) → ℕ → Page
turn Skipped here go room = pass Skipped (go room)
turn Nothing here go room = pass Nothing (go room)
turn (Made r) here go zero = stop here
turn (Made r) here go (suc room) = pass (Made r) (go room)

-- the page of a sequence, with room for so many rows and a budget of so many pairs
unfoldable pub page : (ℕ → ℕ → Look) → List Pair → ℕ → ℕ → Page
page look [] room budget = stop []
page look (p ∷ ps) room zero = stop (p ∷ ps)
page look (p ∷ ps) room (suc budget) = turn (look p.i p.j) (p ∷ ps) (λ left. page look ps left budget) room
