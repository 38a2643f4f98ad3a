-- The listings of both modes: if the checks find no fault, every pair gives a good row or none, so every row that is written is
-- good.
use Rattle.checks.specs.Checked.{Checked}
use Rattle.std.specs.Prelude.{◌≡◌, Bool, true, false, cond, List, ◌++◌, ℕ, ltb, Float, length, Err, Ok}
use Rattle.checks.specs.First.{first as first_fault}
use Rattle.paths.specs.Shape.{shape}
use Rattle.paths.specs.Segments.{segment_count}
use Rattle.paths.specs.Check.{path_checks}
use Rattle.boxes.specs.Index.{index}
use Rattle.listing_pairs.specs.declared.row.Row.{Row}
use Rattle.listing_pairs.specs.Row.{indices_of, points_of}
use Rattle.listing_pairs.specs.Order.{Pair, mutual_pairs, self_pairs}
use Rattle.listing_pairs.specs.Look.{traced_look, traced_self_look}
use Rattle.listing_pairs.specs.Boxed.{boxes_meet, boxed_pairs}
use Rattle.listing_outcomes.specs.Answer.{ListingAnswer}
use Rattle.listing_outcomes.specs.Outcome.{Outcome}
use Rattle.std.proofs.Common.{subst, refl}
use Rattle.checks.specs.declared.call.CallError.TheVariants.{NoRoom}
use Rattle.listing_calls.specs.Listing.{mutual_checks, mutual_listing, self_checks, self_listing}
use Rattle.listing_calls.specs.Pages.{mutual_page, self_page}
use Rattle.listing_calls.specs.Boxed.{mutual_boxed, self_boxed}
use Rattle.listing_calls.specs.Chain.{Lent, chain}
use Rattle.listing_calls.specs.ChainedCalls.{mutual_pages, self_pages}
use Rattle.month.specs.Report.{words}
use Rattle.month.specs.Counted.{unchanged, report_check, counted_of, counted_listing, mutual_rows, mutual_counted, Answered}
use Rattle.release.specs.Words.{Wrote, Listings, listed, paged, counted, Written}
use Rattle.release.specs.Release.{GoodOld}
use Rattle.release.specs.Laws.Rows.{Inside, GoodLook, those-each, mutual-inside, self-inside, none_written}
use Rattle.release.specs.Laws.Outcomes.{full-wrote, boxed-wrote, page-wrote}
use Rattle.release.specs.Laws.Chains.{joins}
use Rattle.release.specs.Laws.Looks.{old-sound, mutual-good, self-good, two-fine, one-fine}

-- ---- a counted listing has the rows of the listing
same-count : (a : ListingAnswer) → listed a ≡ counted (Answered a)
same-count (Err fault) = refl
same-count (Ok counts) = refl

pub counted-wrote : (P : Row → Type 0) (numbers : Row → List ℕ) (listing : Outcome ListingAnswer) (rows : List Row) (i : List ℕ)
    (p : List Float) (report : List ℕ) → Wrote listed P numbers listing
    → Wrote counted P numbers (counted_listing listing rows i p report).listing
counted-wrote P numbers listing rows i p report h = go (ltb (length report) words) (report_check report)
  where
    go : (few : Bool) (c : Checked)
        → Wrote counted P numbers
        (cond few (unchanged (Err NoRoom) i p report) (counted_of c listing rows i p report)).listing
    go true c = none_written P numbers points_of i p
    go false (Err fault) = none_written P numbers points_of i p
    go false (Ok _) =
        subst (λ (n : ℕ). Written P numbers points_of n listing.indices listing.points) (same-count listing.answer) h

-- ---- two paths
module _ (first : List Float) (a : Bool) (second : List Float) (b : Bool) (eps : Float) where
  abbrev n : ℕ
  n = segment_count first a

  abbrev m : ℕ
  m = segment_count second b

  abbrev Good? : Row → Type 0
  Good? = GoodOld first a second b

  pairs-good : first_fault (mutual_checks first a second b eps) ≡ Ok tt
      → (p : Pair) → Inside n m p → GoodLook Good? (traced_look first second eps p.i p.j)
  pairs-good e =
      let f = two-fine eps (shape first 0) (shape second 1) (path_checks first a 0) (path_checks second b 1) e in
      mutual-good first second n m eps (old-sound first a 0 f.one) (old-sound second b 1 f.two) f.epsilon

  mutual-full : (i : List ℕ) (p : List Float) → Wrote listed Good? indices_of (mutual_listing first a second b eps i p)
  unfolding mutual_listing
  mutual-full i p =
      full-wrote Good? (Inside n m) (mutual_checks first a second b eps) (traced_look first second eps) pairs-good
      (mutual_pairs n m) (mutual-inside n m) i p

  mutual-boxed : (boxes : List Float) (i : List ℕ) (p : List Float)
      → Wrote listed Good? indices_of (mutual_boxed first a second b eps boxes i p).listing
  unfolding mutual_boxed
  mutual-boxed boxes i p =
      boxed-wrote Good? (Inside n m) (mutual_checks first a second b eps) (traced_look first second eps) pairs-good
      (boxed_pairs first second eps (mutual_pairs n m))
      (those-each (Inside n m) (boxes_meet first second eps) (mutual_pairs n m) (mutual-inside n m)) i p
      (index first eps n ++ index second eps m) boxes

  mutual-page : (position : ℕ) (l : Lent) → Wrote paged Good? indices_of (mutual_pages first a second b eps position l)
  unfolding mutual_page
  mutual-page position l =
      page-wrote Good? (Inside n m) (mutual_checks first a second b eps) (traced_look first second eps) pairs-good
      (mutual_pairs n m) (mutual-inside n m) l.indices l.points position l.budget

  pub two-paths : Listings Good? indices_of (mutual_listing first a second b eps) (mutual_boxed first a second b eps)
      (mutual_pages first a second b eps) (chain (mutual_pages first a second b eps))
  two-paths =
      record {
        in-full = mutual-full;
        in-boxed = mutual-boxed;
        in-page = mutual-page;
        in-joined = joins Good? (mutual_pages first a second b eps) mutual-page;
      }

  pub counted-paths : (i : List ℕ) (p : List Float) (report : List ℕ)
      → Wrote counted Good? indices_of (mutual_counted first a second b eps i p report).listing
  unfolding mutual_counted
  counted-paths i p report =
      counted-wrote Good? indices_of (mutual_listing first a second b eps i p) (mutual_rows first a second b eps) i p
      report (mutual-full i p)

-- ---- one path with itself
module _ (path : List Float) (closed : Bool) (eps : Float) where
  abbrev k : ℕ
  k = segment_count path closed

  abbrev Own : Row → Type 0
  Own = GoodOld path closed path closed

  own-good : first_fault (self_checks path closed eps) ≡ Ok tt
      → (p : Pair) → Inside k k p → GoodLook Own (traced_self_look path closed eps p.i p.j)
  own-good e =
      let f = one-fine eps (shape path 0) (path_checks path closed 0) e in
      self-good path k closed eps (old-sound path closed 0 f.one) f.epsilon

  self-full : (i : List ℕ) (p : List Float) → Wrote listed Own indices_of (self_listing path closed eps i p)
  unfolding self_listing
  self-full i p =
      full-wrote Own (Inside k k) (self_checks path closed eps) (traced_self_look path closed eps) own-good
      (self_pairs k) (self-inside k) i p

  self-boxed : (boxes : List Float) (i : List ℕ) (p : List Float)
      → Wrote listed Own indices_of (self_boxed path closed eps boxes i p).listing
  unfolding self_boxed
  self-boxed boxes i p =
      boxed-wrote Own (Inside k k) (self_checks path closed eps) (traced_self_look path closed eps) own-good
      (boxed_pairs path path eps (self_pairs k)) (those-each (Inside k k) (boxes_meet path path eps) (self_pairs k) (self-inside k))
      i p (index path eps k) boxes

  self-page : (position : ℕ) (l : Lent) → Wrote paged Own indices_of (self_pages path closed eps position l)
  unfolding self_page
  self-page position l =
      page-wrote Own (Inside k k) (self_checks path closed eps) (traced_self_look path closed eps) own-good
      (self_pairs k) (self-inside k) l.indices l.points position l.budget

  pub one-path : Listings Own indices_of (self_listing path closed eps) (self_boxed path closed eps)
      (self_pages path closed eps) (chain (self_pages path closed eps))
  one-path =
      record {
        in-full = self-full;
        in-boxed = self-boxed;
        in-page = self-page;
        in-joined = joins Own (self_pages path closed eps) self-page;
      }
