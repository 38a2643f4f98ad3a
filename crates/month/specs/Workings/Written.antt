-- What a listing adds to a report, read from the rows that it wrote.
use Rattle.std.specs.Prelude.{◌≡◌, false, List, [], ◌∷◌, ℕ, zero, suc, ◌+◌, ◌-◌, ◌*◌, ◌≤◌, ◌<◌, eqb, length, get_or, drop, Err, Ok}
use Rattle.std.proofs.lemmas.List.Edits.{sets}
use Rattle.checks.specs.declared.fault.Fault.{Fault}
use Rattle.listing_pairs.specs.Row.{indices_a_row}
use Rattle.month.specs.Report.{words, layouts, refusal_numbers, most_added, fresh, full}
use Rattle.month.specs.Counted.{one_if, refused_adds}
use Rattle.listing_outcomes.specs.Answer.{Listed, ListingAnswer}

-- how many of the first n rows of a slice have this class
abbrev pub in_rows : ℕ → ℕ → List ℕ → ℕ
in_rows class zero l = 0
in_rows class (suc n) l = one_if (eqb (get_or l 2 0) class) + in_rows class n (drop indices_a_row l)

-- what an accepted layout adds
unfoldable pub listed_adds : ℕ → ℕ → List ℕ → List ℕ
listed_adds rows pairs l =
    sets fresh layouts
    (1 ∷ pairs ∷ (pairs - rows)
    ∷ in_rows 1 rows l ∷ in_rows 2 rows l ∷ in_rows 3 rows l ∷ in_rows 4 rows l ∷ in_rows 5 rows l ∷ [])

abbrev pub adds_by : ListingAnswer → List ℕ → List ℕ
adds_by (Err fault) l = refused_adds fault.number
adds_by (Ok counts) l = listed_adds counts.rows counts.pairs l

-- an accepted layout whose rows stand in a slice
pub record Listing (rows pairs : ℕ) (indices : List ℕ) : Type 0 where
  pub few-rows : rows ≤ pairs
  pub few-pairs : pairs ≤ most_added
  pub inside : rows * indices_a_row ≤ length indices

-- an answer that can be added to a report
pub record Countable (answer : ListingAnswer) (indices report : List ℕ) : Type 0 where
  pub long : words ≤ length report
  pub roomy : full report ≡ false
  pub refused : (f : Fault) → answer ≡ Err f → f.number < refusal_numbers
  pub listed : (rows pairs : ℕ) → answer ≡ Listed rows pairs → Listing rows pairs indices
