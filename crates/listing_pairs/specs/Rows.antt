-- The scope's row rule: the rows of a sequence of pairs, and how many pairs are looked at. `look` says what a pair gives; any
-- will do.
use Rattle.std.specs.Prelude.{List, [], ◌∷◌, ℕ, suc}
use Rattle.listing_pairs.specs.declared.row.Row.{Row}
use Rattle.listing_pairs.specs.declared.row.Look.{Look}
use Rattle.listing_pairs.specs.declared.row.Look.TheVariants.{Skipped, Nothing, Made}
use Rattle.listing_pairs.specs.Order.{Pair}

-- the pair's row, if it makes one, and then the rows of the rest
abbrev pub onto : Look → List Row → List Row
onto Skipped rows = rows
onto Nothing rows = rows
onto (Made r) rows = r ∷ rows

-- one more, if the pair is looked at
abbrev pub count : Look → ℕ → ℕ
count Skipped n = n
count Nothing n = suc n
count (Made r) n = suc n

abbrev pub rows_of : (ℕ → ℕ → Look) → List Pair → List Row
rows_of look [] = []
rows_of look (p ∷ ps) = onto (look p.i p.j) (rows_of look ps)

abbrev pub looked_at : (ℕ → ℕ → Look) → List Pair → ℕ
looked_at look [] = 0
looked_at look (p ∷ ps) = count (look p.i p.j) (looked_at look ps)
