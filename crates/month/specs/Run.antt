-- A run: one layout after the other, counted in one report. `run_of`, `counted` and `sum_of` are of layouts of any kind: so a run of
-- the mode of large arcs, or of both modes, is described by the same words.
use Rattle.std.specs.Prelude.{Bool, cond, List, [], ◌∷◌, ℕ, ◌+◌, ◌-◌, ◌*◌, eqb, Float, length, take, Err, Ok}
use Rattle.paths.specs.Segments.{segment_count}
use Rattle.listing_pairs.specs.Order.{mutual_pairs, those}
use Rattle.listing_pairs.specs.Traces.{one_trace}
use Rattle.listing_calls.specs.Listing.{mutual_listing}
use Rattle.month.specs.Report.{classes, most_layouts, word}
use Rattle.month.specs.Counted.{mutual_counted}
use Rattle.listing_outcomes.specs.Answer.{ListingAnswer}

-- what a call is given: two paths, epsilon, and the lent slices for the rows
pub record Layout : Type 0 where
  pub first : List Float
  pub first_closed : Bool
  pub second : List Float
  pub second_closed : Bool
  pub epsilon : Float
  pub indices : List ℕ
  pub points : List Float

-- the report after one layout
abbrev pub after : List ℕ → Layout → List ℕ
after report l =
    (mutual_counted l.first l.first_closed l.second l.second_closed l.epsilon l.indices l.points report).report

-- and after all of them, of any kind; a layout that gets 19 leaves the report as it is
abbrev pub run_of : {L : Type 0} → (List ℕ → L → List ℕ) → List ℕ → List L → List ℕ
run_of after report [] = report
run_of after report (l ∷ ls) = run_of after (after report l) ls

abbrev pub run : List ℕ → List Layout → List ℕ
run report ls = run_of after report ls

-- ---- what a run is compared with
-- the layouts that are counted: the first 10,000
abbrev pub counted : {L : Type 0} → List L → List L
counted ls = take most_layouts ls

-- what the mutual listing answers to a layout
abbrev pub answer : Layout → ListingAnswer
answer l =
    (mutual_listing l.first l.first_closed l.second l.second_closed l.epsilon l.indices l.points).answer

-- 1 if it is accepted; 1 if it is refused; 1 if it is refused with n
abbrev pub accepted : ListingAnswer → ℕ
accepted (Err f) = 0
accepted (Ok counts) = 1

abbrev pub refused : ListingAnswer → ℕ
refused (Err f) = 1
refused (Ok counts) = 0

abbrev pub refused_with : ℕ → ListingAnswer → ℕ
refused_with n (Err f) = cond (eqb f.number n) 1 0
refused_with n (Ok counts) = 0

-- the sum of words; the sum of a report's six classes
abbrev pub sum_words : List ℕ → ℕ
sum_words [] = 0
sum_words (w ∷ ws) = w + sum_words ws

abbrev pub six_classes : List ℕ → ℕ
six_classes w =
    word w classes + word w (classes + 1) + word w (classes + 2) + word w (classes + 3) + word w (classes + 4) + word w (classes + 5)

-- this number if it is accepted, else 0
abbrev pub if_accepted : ListingAnswer → ℕ → ℕ
if_accepted (Err f) n = 0
if_accepted (Ok counts) n = n

-- the pairs of two paths of n and of m segments: n * m, less those of one trace above 0
abbrev pub pairs_between : List Float → List Float → ℕ → ℕ → ℕ
pairs_between first second n m = n * m - length (those (one_trace first second) (mutual_pairs n m))

-- a layout's pairs
abbrev pub pairs_of : Layout → ℕ
pairs_of l =
    pairs_between l.first l.second (segment_count l.first l.first_closed) (segment_count l.second l.second_closed)

-- a number of each layout, summed up
abbrev pub sum_of : {L : Type 0} → (L → ℕ) → List L → ℕ
sum_of number [] = 0
sum_of number (l ∷ ls) = number l + sum_of number ls
