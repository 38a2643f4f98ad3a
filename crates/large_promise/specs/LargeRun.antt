-- A run of counted listings of both modes, one after the other in one report: each layout says whether its arcs may be large.
-- Run.antt of the crate `month` says what a run is, and what it is compared with.
use Rattle.std.specs.Prelude.{Bool, cond, List, ℕ}
use Rattle.cuts.specs.CutPath.{cut_path, cut_count}
use Rattle.month.specs.Run.{Layout, pairs_between}
use Rattle.month.specs.Run as old
use Rattle.large_listings.specs.LargeListings.{mutual_large}
use Rattle.large_counted.specs.LargeCounted.{mutual_counted_large}
use Rattle.listing_outcomes.specs.Answer.{ListingAnswer}

-- ---- a layout of the mode of large arcs
-- the report after it
abbrev pub after_large : List ℕ → Layout → List ℕ
after_large report l =
    (mutual_counted_large l.first l.first_closed l.second l.second_closed l.epsilon l.indices l.points report
    ).report

-- what its listing answers
abbrev pub answer_large : Layout → ListingAnswer
answer_large l =
    (mutual_large l.first l.first_closed l.second l.second_closed l.epsilon l.indices l.points).answer

-- its pairs: those of the cut paths
abbrev pub pairs_of_large : Layout → ℕ
pairs_of_large l =
    pairs_between (cut_path l.first l.first_closed) (cut_path l.second l.second_closed)
    (cut_count l.first l.first_closed) (cut_count l.second l.second_closed)

-- ---- a layout of one of the two modes
pub record ModeLayout : Type 0 where
  pub large : Bool
  pub layout : Layout

abbrev pub after : List ℕ → ModeLayout → List ℕ
after report l = cond l.large (after_large report l.layout) (old.after report l.layout)

abbrev pub answer : ModeLayout → ListingAnswer
answer l = cond l.large (answer_large l.layout) (old.answer l.layout)

abbrev pub pairs_of : ModeLayout → ℕ
pairs_of l = cond l.large (pairs_of_large l.layout) (old.pairs_of l.layout)

abbrev pub run : List ℕ → List ModeLayout → List ℕ
run report ls = old.run_of after report ls
