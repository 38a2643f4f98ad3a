-- The words of Release.antt: what is finite, what a call has written, and how many rows its answer has.
use Rattle.std.specs.Prelude.{◌≡◌, Bool, false, List, [], ◌∷◌, ℕ, Float, length, take, Err, Ok}
use Rattle.float_laws.specs.Flat.{flat}
use Rattle.checks.specs.Number.{not_finite}
use Rattle.listing_pairs.specs.declared.row.Row.{Row}
use Rattle.listing_pairs.specs.Row.{points_of}
use Rattle.listing_outcomes.specs.Answer.{ListingAnswer, PageAnswer}
use Rattle.listing_outcomes.specs.Outcome.{Outcome}
use Rattle.listing_outcomes.specs.BoxedOutcome.{BoxedOutcome}
use Rattle.month.specs.Counted.{CountedAnswer}
use Rattle.listing_calls.specs.Chain.{Lent, Joined}
use Rattle.large_pair.specs.LargePair.{Result, LargeOutcome, words_of, floats_of, LargePair, refusal}
use Rattle.large_listings.specs.LargeListings as large

-- ---- numbers and lists
-- neither a NaN nor an infinity
abbrev pub Finite : Float → Type 0
Finite x = not_finite x ≡ false

abbrev pub All : {A : Type 0} → (A → Type 0) → List A → Type 0
All P [] = Unit {0}
All P (x ∷ xs) = P x × All P xs

abbrev pub BeginsWith : {A : Type 0} → List A → List A → Type 0
BeginsWith front whole = take (length front) whole ≡ front

-- ---- rows in slices
-- two slices begin with n rows, of all of which P holds; a row has these whole numbers and these floats
pub record Written {R : Type 0} (P : R → Type 0) (words : R → List ℕ) (floats : R → List Float) (n : ℕ)
    (indices : List ℕ) (points : List Float) : Type 0 where
  pub rows : List R
  pub count : length rows ≡ n
  pub indices-are : BeginsWith (flat words rows) indices
  pub points-are : BeginsWith (flat floats rows) points
  pub all : All P rows

-- how many rows an answer has: a refusal has none
abbrev pub listed : ListingAnswer → ℕ
listed (Err fault) = 0
listed (Ok counts) = counts.rows

abbrev pub paged : PageAnswer → ℕ
paged (Err fault) = 0
paged (Ok counts) = counts.rows

abbrev pub counted : CountedAnswer → ℕ
counted (Err error) = 0
counted (Ok counts) = counts.rows

abbrev pub results : LargePair → ℕ
results (Err error) = 0
results (Ok n) = n

-- P holds of every row that a call wrote, of every result that a pair's call wrote, and of every row that a chain joined
abbrev pub Wrote : {A : Type 0} → (A → ℕ) → (Row → Type 0) → (Row → List ℕ) → Outcome A → Type 0
Wrote rows_in P words o = Written P words points_of (rows_in o.answer) o.indices o.points

abbrev pub WroteResults : (Result → Type 0) → LargeOutcome → Type 0
WroteResults P o = Written P words_of floats_of (results o.answer) o.results o.points

abbrev pub Joins : (Row → Type 0) → (Row → List ℕ) → Joined → Type 0
Joins P words j = Written P words points_of j.rows j.indices j.points

-- the kinds of listing: full, boxed, a page at a position, and a chain of pages from a position on
pub record Listings (P : Row → Type 0) (words : Row → List ℕ) (full : List ℕ → List Float → Outcome ListingAnswer)
    (boxed : List Float → List ℕ → List Float → BoxedOutcome) (page : ℕ → Lent → Outcome PageAnswer)
    (joined : ℕ → List Lent → Joined) : Type 0 where
  pub in-full : (i : List ℕ) (p : List Float) → Wrote listed P words (full i p)
  pub in-boxed : (boxes : List Float) (i : List ℕ) (p : List Float) → Wrote listed P words (boxed boxes i p).listing
  pub in-page : (position : ℕ) (l : Lent) → Wrote paged P words (page position l)
  pub in-joined : (position : ℕ) (lents : List Lent) → Joins P words (joined position lents)

-- a page's call in the mode of large arcs, by what is lent to it
abbrev pub mutual_large_pages : List Float → Bool → List Float → Bool → Float → ℕ → Lent → Outcome PageAnswer
mutual_large_pages first a second b eps position l =
    large.mutual_page_large first a second b eps position l.budget l.indices l.points

abbrev pub self_large_pages : List Float → Bool → Float → ℕ → Lent → Outcome PageAnswer
self_large_pages path closed eps position l =
    large.self_page_large path closed eps position l.budget l.indices l.points
