-- The listings of the mode of large arcs: they are listings of the cut paths, whose segments are accepted.
use Rattle.std.specs.Prelude.{◌≡◌, refl, Bool, List, ℕ, Float, Ok}
use Rattle.checks.specs.First.{first as first_fault}
use Rattle.paths.specs.Shape.{shape}
use Rattle.cuts.specs.CutPath.{cut_path, cut_count}
use Rattle.cuts.specs.LargeChecks.{large_path_checks}
use Rattle.boxes.specs.Index.{index}
use Rattle.listing_pairs.specs.declared.row.Row.{Row}
use Rattle.listing_pairs.specs.Order.{Pair, mutual_pairs, self_pairs}
use Rattle.listing_pairs.specs.Boxed.{boxes_meet, boxed_pairs}
use Rattle.listing_calls.specs.Chain.{Lent}
use Rattle.large_listings.specs.LargeListings as large
use Rattle.large_listings.specs.LargeChain.{large_chain}
use Rattle.large_counted.specs.LargeCounted.{mutual_large_rows, mutual_counted_large}
use Rattle.release.specs.Words.{Wrote, Listings, listed, paged, counted, mutual_large_pages, self_large_pages}
use Rattle.release.specs.Release.{GoodCut}
use Rattle.release.specs.Laws.Rows.{Inside, GoodLook, those-each, mutual-inside, self-inside}
use Rattle.release.specs.Laws.Outcomes.{large-full-wrote, large-boxed-wrote, large-page-wrote}
use Rattle.release.specs.Laws.Chains.{large-joins}
use Rattle.release.specs.Laws.Looks.{cut-sound, mutual-good, self-good, two-fine, one-fine}
use Rattle.release.specs.Laws.Listings.{counted-wrote}

-- ---- two paths
module _ (first : List Float) (a : Bool) (second : List Float) (b : Bool) (eps : Float) where
  abbrev n : ℕ
  n = cut_count first a

  abbrev m : ℕ
  m = cut_count second b

  abbrev Good? : Row → Type 0
  Good? = GoodCut first a second b

  abbrev words : Row → List ℕ
  words = large.mutual_numbers first a second b

  pairs-good : first_fault (large.mutual_large_checks first a second b eps) ≡ Ok tt
      → (p : Pair) → Inside n m p → GoodLook Good? (large.mutual_large_look first a second b eps p.i p.j)
  pairs-good e =
      let f = two-fine eps (shape first 0) (shape second 1) (large_path_checks first a 0) (large_path_checks second b 1) e in
      mutual-good (cut_path first a) (cut_path second b) n m eps (cut-sound first a 0 f.one) (cut-sound second b 1 f.two)
      f.epsilon

  mutual-full : (i : List ℕ) (p : List Float) → Wrote listed Good? words (large.mutual_large first a second b eps i p)
  unfolding large.mutual_large
  mutual-full i p =
      large-full-wrote Good? (Inside n m) (large.mutual_large_checks first a second b eps)
      (large.mutual_large_look first a second b eps) pairs-good (mutual_pairs n m) (mutual-inside n m) i p words

  mutual-boxed : (boxes : List Float) (i : List ℕ) (p : List Float)
      → Wrote listed Good? words (large.mutual_boxed_large first a second b eps boxes i p).listing
  unfolding large.mutual_boxed_large
  mutual-boxed boxes i p =
      large-boxed-wrote Good? (Inside n m) (large.mutual_large_checks first a second b eps)
      (large.mutual_large_look first a second b eps) pairs-good
      (boxed_pairs (cut_path first a) (cut_path second b) eps (mutual_pairs n m))
      (those-each (Inside n m) (boxes_meet (cut_path first a) (cut_path second b) eps) (mutual_pairs n m) (mutual-inside n m)) i p
      words
      (large.mutual_large_index first a second b eps) boxes

  mutual-page : (position : ℕ) (l : Lent) → Wrote paged Good? words (mutual_large_pages first a second b eps position l)
  unfolding large.mutual_page_large
  mutual-page position l =
      large-page-wrote Good? (Inside n m) (large.mutual_large_checks first a second b eps)
      (large.mutual_large_look first a second b eps) pairs-good (mutual_pairs n m) (mutual-inside n m) l.indices l.points words
      position l.budget

  pub large-two-paths : Listings (GoodCut first a second b) (large.mutual_numbers first a second b)
      (large.mutual_large first a second b eps) (large.mutual_boxed_large first a second b eps)
      (mutual_large_pages first a second b eps) (large_chain (mutual_large_pages first a second b eps))
  large-two-paths =
      record {
        in-full = mutual-full;
        in-boxed = mutual-boxed;
        in-page = mutual-page;
        in-joined = large-joins Good? words (λ r. refl) (mutual_large_pages first a second b eps) mutual-page;
      }

  pub large-counted-paths : (i : List ℕ) (p : List Float) (report : List ℕ)
      → Wrote counted Good? words (mutual_counted_large first a second b eps i p report).listing
  unfolding mutual_counted_large
  large-counted-paths i p report =
      counted-wrote Good? words (large.mutual_large first a second b eps i p) (mutual_large_rows first a second b eps) i p report
      (mutual-full i p)

-- ---- one path with itself
module _ (path : List Float) (closed : Bool) (eps : Float) where
  abbrev k : ℕ
  k = cut_count path closed

  abbrev Own : Row → Type 0
  Own = GoodCut path closed path closed

  abbrev own-words : Row → List ℕ
  own-words = large.self_numbers path closed

  own-good : first_fault (large.self_large_checks path closed eps) ≡ Ok tt
      → (p : Pair) → Inside k k p → GoodLook Own (large.self_large_look path closed eps p.i p.j)
  own-good e =
      let f = one-fine eps (shape path 0) (large_path_checks path closed 0) e in
      self-good (cut_path path closed) k closed eps (cut-sound path closed 0 f.one) f.epsilon

  self-full : (i : List ℕ) (p : List Float) → Wrote listed Own own-words (large.self_large path closed eps i p)
  unfolding large.self_large
  self-full i p =
      large-full-wrote Own (Inside k k) (large.self_large_checks path closed eps) (large.self_large_look path closed eps) own-good
      (self_pairs k) (self-inside k) i p own-words

  self-boxed : (boxes : List Float) (i : List ℕ) (p : List Float)
      → Wrote listed Own own-words (large.self_boxed_large path closed eps boxes i p).listing
  unfolding large.self_boxed_large
  self-boxed boxes i p =
      let cut = cut_path path closed in
      large-boxed-wrote Own (Inside k k) (large.self_large_checks path closed eps) (large.self_large_look path closed eps) own-good
      (boxed_pairs cut cut eps (self_pairs k)) (those-each (Inside k k) (boxes_meet cut cut eps) (self_pairs k) (self-inside k)) i p
      own-words (index cut eps k) boxes

  self-page : (position : ℕ) (l : Lent) → Wrote paged Own own-words (self_large_pages path closed eps position l)
  unfolding large.self_page_large
  self-page position l =
      large-page-wrote Own (Inside k k) (large.self_large_checks path closed eps) (large.self_large_look path closed eps) own-good
      (self_pairs k) (self-inside k) l.indices l.points own-words position l.budget

  pub large-one-path : Listings (GoodCut path closed path closed) (large.self_numbers path closed)
      (large.self_large path closed eps) (large.self_boxed_large path closed eps)
      (self_large_pages path closed eps) (large_chain (self_large_pages path closed eps))
  large-one-path =
      record {
        in-full = self-full;
        in-boxed = self-boxed;
        in-page = self-page;
        in-joined = large-joins Own own-words (λ r. refl) (self_large_pages path closed eps) self-page;
      }
