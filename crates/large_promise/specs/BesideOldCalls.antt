-- With no bulge above 1 in magnitude a listing of the mode of large arcs beside the old mode's call for the same paths, in slices
-- that have room for as many rows: the same answer, refusals too; the same rows, with halves 0. (NoLarge.antt and BesideOld.antt
-- of the crate `large_listings` have the steps, and NoLarge says the same of pages and boxed listings.)
use Rattle.std.specs.Prelude.{◌≡◌, Bool, List, ℕ, Float}
use Rattle.std.proofs.Math.Path.{ap, subst}
use Rattle.std.proofs.Common.{◌∙◌, sym}
use Rattle.paths.specs.Segments.{segment_count}
use Rattle.listing_pairs.specs.Order.{mutual_pairs, self_pairs}
use Rattle.listing_pairs.specs.Look.{traced_look, traced_self_look}
use Rattle.listing_outcomes.specs.Answer.{Listed, ListingAnswer}
use Rattle.listing_outcomes.specs.Outcome.{Outcome, room}
use Rattle.listing_calls.specs.Listing.{mutual_checks, mutual_listing, self_checks, self_listing}
use Rattle.large_outcomes.specs.LargeRow.{large_room}
use Rattle.large_listings.specs.LargeListings.{mutual_large, self_large}
use Rattle.large_listings.specs.NoLarge.{Plain, mutual-plain, self-plain}
use Rattle.large_listings.specs.BesideOld.{SameRows, same_answer, same_rows}

module _ (indices others : List ℕ) (points more : List Float) (fit : large_room indices points ≡ room others more) where
  -- ---- two paths
  module _ (first : List Float) (first_closed : Bool) (second : List Float) (second_closed : Bool) (epsilon : Float)
      (p : Plain first) (q : Plain second) where
    pub mutual-beside : (mutual_large first first_closed second second_closed epsilon indices points).answer
        ≡ (mutual_listing first first_closed second second_closed epsilon others more).answer
    unfolding mutual_listing
    mutual-beside =
        ap (λ (o : Outcome ListingAnswer). o.answer)
        (mutual-plain first first_closed second second_closed epsilon p q indices points)
        ∙ same_answer (mutual_checks first first_closed second second_closed epsilon) (traced_look first second epsilon)
        (mutual_pairs (segment_count first first_closed) (segment_count second second_closed)) indices others points more fit

    pub mutual-rows-beside : (n k : ℕ)
        → (mutual_listing first first_closed second second_closed epsilon others more).answer ≡ Listed n k
        → SameRows (mutual_large first first_closed second second_closed epsilon indices points)
        (mutual_listing first first_closed second second_closed epsilon others more) n
    unfolding mutual_listing
    mutual-rows-beside n k e =
        let ps = mutual_pairs (segment_count first first_closed) (segment_count second second_closed) in
        subst (λ (o : Outcome ListingAnswer).
        SameRows o (mutual_listing first first_closed second second_closed epsilon others more) n)
        (sym (mutual-plain first first_closed second second_closed epsilon p q indices points))
        (same_rows (mutual_checks first first_closed second second_closed epsilon) (traced_look first second epsilon) ps indices others
        points more fit n k e)

  -- ---- one path
  module _ (path : List Float) (closed : Bool) (epsilon : Float) (p : Plain path) where
    pub self-beside : (self_large path closed epsilon indices points).answer ≡ (self_listing path closed epsilon others more).answer
    unfolding self_listing
    self-beside =
        ap (λ (o : Outcome ListingAnswer). o.answer) (self-plain path closed epsilon p indices points)
        ∙ same_answer (self_checks path closed epsilon) (traced_self_look path closed epsilon) (self_pairs (segment_count path closed))
        indices others points more fit

    pub self-rows-beside : (n k : ℕ) → (self_listing path closed epsilon others more).answer ≡ Listed n k
        → SameRows (self_large path closed epsilon indices points) (self_listing path closed epsilon others more) n
    unfolding self_listing
    self-rows-beside n k e =
        subst (λ (o : Outcome ListingAnswer). SameRows o (self_listing path closed epsilon others more) n)
        (sym (self-plain path closed epsilon p indices points))
        (same_rows (self_checks path closed epsilon) (traced_self_look path closed epsilon) (self_pairs (segment_count path closed))
        indices others points more fit n k e)
