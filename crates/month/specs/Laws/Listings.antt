-- What a mutual listing adds to a report: few enough that no sum passes 64 bits, and the same whether it is read from the rows
-- that were written or from the definition's rows.
use Rattle.checks.specs.Checked.{Checked}
use Rattle.std.proofs.Math.Path.{◌≡◌, sym}
use Rattle.std.specs.Prelude.{refl, Bool, true, false, ◌||◌, List, [], ◌∷◌, ◌++◌, ℕ, zero, suc, ◌+◌, ◌-◌, ◌*◌, ◌≤◌, ◌<◌, eqb, leb, Float, get_or, take, drop, set, replicate, Err, Ok}
use Rattle.std.proofs.Common.{ap, subst, ◌∙◌, zero-le, mul-le-mul, arith, leb-false, length-set, take_all, get_or-take, get_or-drop}
use Rattle.std.proofs.Math.ListN.{length}
use Rattle.std.proofs.lemmas.List.Edits.{sets}
use Rattle.std.proofs.Math.Seq.{length-sets, slice, length-slice}
use Rattle.checks.specs.declared.fault.Fault.{Fault}
use Rattle.checks.specs.First.{first as first_fault}
use Rattle.paths.specs.Path.{most_vertices}
use Rattle.paths.specs.Segments.{segment_count}
use Rattle.paths.specs.Laws.Segments.{few-segments}
use Rattle.listing_pairs.specs.declared.row.Row.{Row}
use Rattle.listing_pairs.specs.declared.row.Look.{Look}
use Rattle.listing_pairs.specs.declared.row.Look.TheVariants.{Skipped, Nothing, Made}
use Rattle.listing_pairs.specs.Row.{indices_a_row, indices_of, numbers_of_rows}
use Rattle.listing_pairs.specs.Order.{Pair, mutual_pairs}
use Rattle.listing_pairs.specs.Rows.{onto, count, rows_of, looked_at}
use Rattle.listing_pairs.specs.Look.{traced_look}
use Rattle.listing_pairs.specs.Laws.Order.{few-pairs}
use Rattle.listing_loop.specs.Laws.Pages.{few-looked}
use Rattle.listing_outcomes.specs.Answer.{Listed, ListingAnswer}
use Rattle.listing_outcomes.specs.Outcome.{Outcome, Leaves, room, room_check, listed_of, outcome}
use Rattle.listing_outcomes.specs.Laws.Counts.{same-rows, same-pairs}
use Rattle.listing_calls.specs.Listing.{mutual_checks, mutual_listing}
use Rattle.listing_calls.specs.Laws.Counts.{mutual-fits}
use Rattle.month.specs.Report.{
  words,
  layouts,
  pairs,
  refusals,
  refusal_numbers,
  most_layouts,
  most_added,
  largest,
  most_held,
  fresh,
  word,
  some_above,
  full,
  plus,
}
use Rattle.month.specs.Counted.{one_if, in_class, refused_adds, accepted_adds, adds, mutual_rows}
use Rattle.month.specs.Given.{among, given}
use Rattle.month.specs.Workings.Sums.{AllFit}
use Rattle.month.specs.Workings.Written.{in_rows, listed_adds, adds_by, Listing, Countable}
use Rattle.month.specs.Laws.Words.{nothing_above}
use Rattle.month.specs.Laws.Classes.{one-if-few, written-class}
use Rattle.month.specs.Laws.Given.{Known, mutual-known, given_below}

-- ---- what is added is a list of 40 words, each small
pub record Adds (l : List ℕ) : Type 0 where
  pub long : length l ≡ words
  pub small : (k : ℕ) → word l k ≤ most_added

fresh-adds : Adds fresh
fresh-adds = record { long = refl; small = zeros words }
  where
    zeros : (n k : ℕ) → word (replicate n 0) k ≤ most_added
    zeros zero k = omega arith
    zeros (suc n) zero = omega arith
    zeros (suc n) (suc k) = zeros n k

set-small : (l : List ℕ) (i v : ℕ) → ((k : ℕ) → word l k ≤ most_added) → v ≤ most_added → (k : ℕ) → word (set l i v) k ≤ most_added
set-small [] i v h g k = h k
set-small (x ∷ l) zero v h g zero = g
set-small (x ∷ l) zero v h g (suc k) = h (suc k)
set-small (x ∷ l) (suc i) v h g zero = h 0
set-small (x ∷ l) (suc i) v h g (suc k) = set-small l i v (λ j. h (suc j)) g k

one_set : {l : List ℕ} (i v : ℕ) → v ≤ most_added → Adds l → Adds (set l i v)
one_set {l} i v h a = record { long = length-set l i v ∙ a.long; small = set-small l i v a.small h }

pub refused-small : (n : ℕ) → Adds (refused_adds n)
unfolding refused_adds
refused-small n = one_set (refusals + n) 1 (omega arith) (one_set layouts 1 (omega arith) fresh-adds)

few-in-rows : (class n : ℕ) (l : List ℕ) → in_rows class n l ≤ n
few-in-rows class zero l = zero-le
few-in-rows class (suc n) l =
    omega (arith, one-if-few (eqb (get_or l 2 0) class), few-in-rows class n (drop indices_a_row l))

pub listed_small : (rows pairs : ℕ) (l : List ℕ) → rows ≤ pairs → pairs ≤ most_added → Adds (listed_adds rows pairs l)
unfolding listed_adds
listed_small rows pairs l few most =
    let of : (class : ℕ) → in_rows class rows l ≤ most_added = λ class. omega (arith, few-in-rows class rows l, few, most) in
    one_set 7 (in_rows 5 rows l) (of 5)
    (one_set 6 (in_rows 4 rows l) (of 4)
    (one_set 5 (in_rows 3 rows l) (of 3)
    (one_set 4 (in_rows 2 rows l) (of 2)
    (one_set 3 (in_rows 1 rows l) (of 1)
    (one_set 2 (pairs - rows) (omega (arith, most))
    (one_set 1 pairs most
    (one_set 0 1 (omega arith) fresh-adds)))))))

few-in-class : (class : ℕ) (rows : List Row) → in_class class rows ≤ length rows
few-in-class class [] = zero-le
few-in-class class (r ∷ rows) = omega (arith, one-if-few (eqb r.class class), few-in-class class rows)

pub accepted-small : (rows : List Row) (looked : ℕ) → length rows ≤ looked → looked ≤ most_added
    → Adds (accepted_adds rows looked)
unfolding accepted_adds
accepted-small rows looked few most =
    let of : (class : ℕ) → in_class class rows ≤ most_added = λ class. omega (arith, few-in-class class rows, few, most) in
    one_set 7 (in_class 5 rows) (of 5)
    (one_set 6 (in_class 4 rows) (of 4)
    (one_set 5 (in_class 3 rows) (of 3)
    (one_set 4 (in_class 2 rows) (of 2)
    (one_set 3 (in_class 1 rows) (of 1)
    (one_set 2 (looked - length rows) (omega (arith, most))
    (one_set 1 looked most
    (one_set 0 1 (omega arith) fresh-adds)))))))

pub adds-whole : {l : List ℕ} → Adds l → take words l ≡ l
adds-whole {l} a = take_all words l (omega (arith, a.long))

-- ---- a report that is not full has room for them
module _ (report : List ℕ) (long : words ≤ length report) (roomy : full report ≡ false) where
  first-no : (a b : Bool) → (a || b) ≡ false → (a ≡ false) × (b ≡ false)
  first-no true b e = absurd (no-path e)
    where
      no-path : true ≡ false → ⊥
      no-path e = let z : ◌≡◌ {A = ℕ} 0 1 = cc in omega (arith, z)
  first-no false b e = (refl, e)

  parts : (leb most_layouts (word report layouts) ≡ false) × (some_above most_held (slice pairs words report) ≡ false)
  unfolding full
  parts = first-no (leb most_layouts (word report layouts)) (some_above most_held (slice pairs words report)) roomy

  pub few-layouts : word report layouts < most_layouts
  few-layouts = leb-false most_layouts (word report layouts) parts.0

  pub words-held : (k : ℕ) → k < words → word report k ≤ most_held
  words-held zero h = omega (arith, few-layouts)
  words-held (suc k) h =
      let is : word (slice pairs words report) k ≡ word report (1 + k) =
      get_or-drop 1 (take words report) k 0 ∙ get_or-take words report (1 + k) 0 (omega (arith, h)) in
      let e : 1 + k ≡ suc k = omega arith in
      omega (
        arith,
        nothing_above most_held (slice pairs words report) parts.1 k (omega (arith, h, length-slice 1 words report long)),
        is,
        ap (word report) e,
      )

  pub adds_fit : {l : List ℕ} → Adds l → AllFit report l
  adds_fit a = record { each = λ k h. omega (arith, words-held k h, a.small k) }

-- what `add_words` asks, and what it leaves, if l is what was stored of m
pub adds-asked : (report l m : List ℕ) → words ≤ length report → full report ≡ false → l ≡ m → Adds m
    → ((words ≤ length report) × (words ≤ length l)) × AllFit report l
adds-asked report l m long roomy is a =
    ((long, omega (arith, ap length is, a.long)), subst (AllFit report) (sym is) (adds_fit report long roomy a))

pub adds-done : (w report l m : List ℕ) → w ≡ plus report (take words l) → l ≡ m → Adds m → w ≡ plus report m
adds-done w report l m sum is a = sum ∙ ap (λ (x : List ℕ). plus report (take words x)) is ∙ ap (plus report) (adds-whole a)

-- ---- how many rows and pairs a listing has
pub rows-looked : (f : ℕ → ℕ → Look) (ps : List Pair) → length (rows_of f ps) ≤ looked_at f ps
rows-looked f [] = zero-le
rows-looked f (p ∷ ps) = go (f p.i p.j) (rows-looked f ps)
  where
    go : (s : Look) → length (rows_of f ps) ≤ looked_at f ps → length (onto s (rows_of f ps)) ≤ count s (looked_at f ps)
    go Skipped h = h
    go Nothing h = omega (arith, h)
    go (Made r) h = omega (arith, h)

never : {f : Fault} {k m : ℕ} → Err f ≡ Listed k m → ⊥
never e = let z : ◌≡◌ {A = ℕ} 0 1 = cc in omega (arith, z)

-- ---- what is read from the rows that were written is what the definition adds
pub same-adds : (c : Checked) (rows : List Row) (looked : ℕ) (i : List ℕ) (p : List Float)
    → adds_by (listed_of c rows looked i p).answer (listed_of c rows looked i p).indices
    ≡ adds (listed_of c rows looked i p).answer rows
unfolding listed_adds accepted_adds
same-adds (Err fault) rows looked i p = refl
same-adds (Ok _) rows looked i p =
    let rest = drop (length (numbers_of_rows indices_of rows)) i in
    rw (
      written-class 1 rows rest,
      written-class 2 rows rest,
      written-class 3 rows rest,
      written-class 4 rows rest,
      written-class 5 rows rest,
    ) refl

module _ (first : List Float) (first_closed : Bool) (second : List Float) (second_closed : Bool) (epsilon : Float)
    (i₀ : List ℕ) (p₀ : List Float) where
  abbrev f : ℕ → ℕ → Look
  f = traced_look first second epsilon

  abbrev ps : List Pair
  ps = mutual_pairs (segment_count first first_closed) (segment_count second second_closed)

  abbrev found : Checked
  found = first_fault (mutual_checks first first_closed second second_closed epsilon ++ (room_check (rows_of f ps) i₀ p₀ ∷ []))

  pub few-looked-at : looked_at f ps ≤ most_added
  few-looked-at =
      let n = segment_count first first_closed in
      let m = segment_count second second_closed in
      omega (
        arith,
        few-looked f ps,
        few-pairs (λ i. 0) (λ i. m) n m (λ i. omega arith) 0 0 n,
        mul-le-mul (few-segments first first_closed) (few-segments second second_closed),
      )

  pub mutual-adds : adds_by (mutual_listing first first_closed second second_closed epsilon i₀ p₀).answer
      (mutual_listing first first_closed second second_closed epsilon i₀ p₀).indices
      ≡ adds (mutual_listing first first_closed second second_closed epsilon i₀ p₀).answer
      (mutual_rows first first_closed second second_closed epsilon)
  unfolding mutual_listing outcome
  mutual-adds = same-adds found (rows_of f ps) (looked_at f ps) i₀ p₀

  -- its number is one of those that are given
  pub mutual-given : (fault : Fault)
      → (mutual_listing first first_closed second second_closed epsilon i₀ p₀).answer ≡ Err fault
      → among fault.number given ≡ true
  unfolding mutual_listing outcome
  mutual-given fault =
      go found (mutual-known first first_closed second second_closed epsilon (rows_of f ps) i₀ p₀) fault
    where
      other : {f : Fault} {k m : ℕ} → Listed k m ≡ Err f → ⊥
      other e = let z : ◌≡◌ {A = ℕ} 0 1 = sym cc in omega (arith, z)

      same : {f g : Fault} → ◌≡◌ {A = ListingAnswer} (Err f) (Err g) → f ≡ g
      same e = cc

      go : (c : Checked) → Known c → (fault : Fault)
          → (listed_of c (rows_of f ps) (looked_at f ps) i₀ p₀).answer ≡ Err fault → among fault.number given ≡ true
      go (Ok _) k fault e = absurd (other e)
      go (Err g) k fault e = k.known fault (ap Err (same e))

  pub mutual-counts : (rows looked : ℕ)
      → (mutual_listing first first_closed second second_closed epsilon i₀ p₀).answer ≡ Listed rows looked
      → (rows ≡ length (mutual_rows first first_closed second second_closed epsilon)) × (looked ≡ looked_at f ps)
  unfolding mutual_listing outcome
  mutual-counts rows looked = go found
    where
      go : (c : Checked) → (listed_of c (rows_of f ps) (looked_at f ps) i₀ p₀).answer ≡ Listed rows looked
          → (rows ≡ length (rows_of f ps)) × (looked ≡ looked_at f ps)
      go (Ok _) e = (sym (same-rows e), sym (same-pairs e))
      go (Err g) e = absurd (never e)

  pub mutual-countable : (report : List ℕ) → words ≤ length report → full report ≡ false
      → (a : ListingAnswer) (i : List ℕ) (p : List Float)
      → Leaves (mutual_listing first first_closed second second_closed epsilon i₀ p₀) a i p → Countable a i report
  mutual-countable report long roomy a i p leaves =
      let fits = mutual-fits first first_closed second second_closed epsilon i₀ p₀ in
      record {
        long = long;
        roomy = roomy;
        refused = λ fault e. given_below fault.number (mutual-given fault (sym leaves.answer ∙ e));
        listed =
            λ rows looked e.
            let is = mutual-counts rows looked (sym leaves.answer ∙ e) in
            let few = fits.few rows looked (sym leaves.answer ∙ e) in
            record {
              few-rows = omega (arith, is.0, is.1, rows-looked f ps);
              few-pairs = omega (arith, is.1, few-looked-at);
              inside = omega (arith, few, fits.indices, ap length leaves.indices);
            };
      }

  -- the report, by what was written
  pub mutual-written : (report : List ℕ) (a : ListingAnswer) (i : List ℕ) (p : List Float)
      → Leaves (mutual_listing first first_closed second second_closed epsilon i₀ p₀) a i p
      → (w : List ℕ) → w ≡ plus report (adds_by a i)
      → w ≡ plus report (adds (mutual_listing first first_closed second second_closed epsilon i₀ p₀).answer
      (mutual_rows first first_closed second second_closed epsilon))
  mutual-written report a i p leaves w sum =
      sum
      ∙ ap (λ (x : ListingAnswer). plus report (adds_by x i)) leaves.answer
      ∙ ap (λ (x : List ℕ). plus report (adds_by (mutual_listing first first_closed second second_closed epsilon i₀ p₀).answer x))
      leaves.indices
      ∙ ap (plus report) mutual-adds
