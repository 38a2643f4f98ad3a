-- What holds of each row that a pair makes holds of each row that a listing or a page writes.
use Rattle.checks.specs.Checked.{Checked}
use Rattle.std.specs.Prelude.{◌≡◌, refl, Bool, true, false, cond, Float, length, drop, Err, Ok}
use Rattle.std.proofs.Common.{sym, subst, arith, take_at}
use Rattle.std.proofs.Math.Logic.Iff
use mathlib.Core.List.{List, [], ◌∷◌, ◌++◌}
use Prim.Native.Nat.{ℕ, zero, suc, ◌+◌, ◌-◌, ◌≤◌, ◌<◌}
use Rattle.float_laws.specs.Flat.{flat}
use Rattle.checks.specs.declared.fault.Fault.{Fault}
use Rattle.checks.specs.First.{first as first_fault}
use Rattle.checks.specs.Laws.Chains.{append-fine}
use Rattle.listing_pairs.specs.declared.row.Row.{Row}
use Rattle.listing_pairs.specs.declared.row.Look.{Look}
use Rattle.listing_pairs.specs.declared.row.Look.TheVariants.{Skipped, Nothing, Made}
use Rattle.listing_pairs.specs.Row.{indices_of, points_of}
use Rattle.listing_pairs.specs.Order.{Pair, along, pairs_from, mutual_pairs, self_pairs, those}
use Rattle.listing_pairs.specs.Rows.{onto, rows_of}
use Rattle.listing_pairs.specs.Page.{Page, page, turn}
use Rattle.listing_outcomes.specs.Outcome.{overwrite, outcome_of}
use Rattle.large_outcomes.specs.LargeOutcome.{large_of}
use Rattle.release.specs.Words.{All, BeginsWith, Written, Wrote}

-- ---- lists
module _ {A : Type 0} (P : A → Type 0) where
  pub each_append : (l m : List A) → All P l → All P m → All P (l ++ m)
  each_append [] m a b = b
  each_append (x ∷ l) m a b = (a.0, each_append l m a.1 b)

  pub each-drop : (n : ℕ) (l : List A) → All P l → All P (drop n l)
  each-drop zero l a = a
  each-drop (suc n) [] a = tt
  each-drop (suc n) (x ∷ l) a = each-drop n l a.1

-- ---- the pairs of a sequence are within the two counts
abbrev pub Inside : ℕ → ℕ → Pair → Type 0
Inside n m p = (p.i < n) × (p.j < m)

along-inside : (n m i : ℕ) → i < n → (j k : ℕ) → ((c : ℕ) → j ≤ c → c < j + k → c < m) → All (Inside n m) (along i j k)
along-inside n m i h j zero f = tt
along-inside n m i h j (suc k) f =
    ((h, f j (omega arith) (omega arith)), along-inside n m i h (suc j) k (λ c a b. f c (omega arith) (omega arith)))

pairs-inside : (n m : ℕ) (from to : ℕ → ℕ) → ((i : ℕ) → to i ≤ m) → (i j k : ℕ) → i + k ≤ n
    → All (Inside n m) (pairs_from from to i j k)
pairs-inside n m from to f i j zero h = tt
pairs-inside n m from to f i j (suc k) h =
    each_append (Inside n m) (along i j (to i - j)) (pairs_from from to (suc i) (from (suc i)) k)
    (along-inside n m i (omega (arith, h)) j (to i - j) (λ c a b. below (to i) c a b (f i)))
    (pairs-inside n m from to f (suc i) (from (suc i)) k (omega (arith, h)))
  where
    below : (t c : ℕ) → j ≤ c → c < j + (t - j) → t ≤ m → c < m
    below t c a b l = omega arith

pub mutual-inside : (n m : ℕ) → All (Inside n m) (mutual_pairs n m)
mutual-inside n m = pairs-inside n m (λ i. 0) (λ i. m) (λ i. omega arith) 0 0 n (omega arith)

pub self-inside : (n : ℕ) → All (Inside n n) (self_pairs n)
self-inside n = pairs-inside n n (λ i. i + 1) (λ i. n) (λ i. omega arith) 0 1 n (omega arith)

pub those-each : (P : Pair → Type 0) (test : Pair → Bool) (ps : List Pair) → All P ps → All P (those test ps)
those-each P test [] a = tt
those-each P test (p ∷ ps) a = go (test p) (those-each P test ps a.1)
  where
    go : (b : Bool) → All P (those test ps) → All P (cond b (p ∷ those test ps) (those test ps))
    go true rest = (a.0, rest)
    go false rest = rest

-- ---- the rows of a sequence and of a page
abbrev pub GoodLook : (Row → Type 0) → Look → Type 0
GoodLook P Skipped = Unit {0}
GoodLook P Nothing = Unit {0}
GoodLook P (Made r) = P r

module _ (P : Row → Type 0) (Q : Pair → Type 0) (look : ℕ → ℕ → Look)
    (each : (p : Pair) → Q p → GoodLook P (look p.i p.j)) where
  onto-each : (s : Look) (rows : List Row) → GoodLook P s → All P rows → All P (onto s rows)
  onto-each Skipped rows a b = b
  onto-each Nothing rows a b = b
  onto-each (Made r) rows a b = (a, b)

  pub rows-each : (ps : List Pair) → All Q ps → All P (rows_of look ps)
  rows-each [] a = tt
  rows-each (p ∷ ps) a = onto-each (look p.i p.j) (rows_of look ps) (each p a.0) (rows-each ps a.1)

  turn-each : (s : Look) (here : List Pair) (go : ℕ → Page) (room : ℕ) → GoodLook P s → ((left : ℕ) → All P (go left).rows)
      → All P (turn s here go room).rows
  turn-each Skipped here go room a b = b room
  turn-each Nothing here go room a b = b room
  turn-each (Made r) here go zero a b = tt
  turn-each (Made r) here go (suc room) a b = (a, b room)

  pub page-each : (ps : List Pair) (room budget : ℕ) → All Q ps → All P (page look ps room budget).rows
  unfolding page
  page-each [] room budget a = tt
  page-each (p ∷ ps) room zero a = tt
  page-each (p ∷ ps) room (suc budget) a =
      turn-each (look p.i p.j) (p ∷ ps) (λ left. page look ps left budget) room (each p a.0)
      (λ left. page-each ps left budget a.1)

-- ---- what is written
front : {A : Type 0} (old values : List A) → BeginsWith values (overwrite old values)
front old values = take_at values (drop (length values) old) (length values) refl

pub none_written : {R : Type 0} (P : R → Type 0) (words : R → List ℕ) (floats : R → List Float) (i : List ℕ) (p : List Float)
    → Written P words floats 0 i p
none_written P words floats i p = record { rows = []; count = refl; indices-are = refl; points-are = refl; all = tt }

module _ {A : Type 0} (P : Row → Type 0) (words : Row → List ℕ) (rows_in : A → ℕ) (refused : Fault → A)
    (none : (f : Fault) → rows_in (refused f) ≡ 0) (answer : A) (rows : List Row) (count : length rows ≡ rows_in answer)
    (i : List ℕ) (p : List Float) where
  pub large-wrote : (c : Checked) → (c ≡ Ok tt → All P rows) → Wrote rows_in P words (large_of words refused c answer rows i p)
  large-wrote (Err fault) good =
      subst (λ (n : ℕ). Written P words points_of n i p) (sym (none fault)) (none_written P words points_of i p)
  large-wrote (Ok _) good =
      record {
        rows = rows;
        count = count;
        indices-are = front i (flat words rows);
        points-are = front p (flat points_of rows);
        all = good refl;
      }

module _ {A : Type 0} (P : Row → Type 0) (rows_in : A → ℕ) (refused : Fault → A)
    (none : (f : Fault) → rows_in (refused f) ≡ 0) (answer : A) (rows : List Row) (count : length rows ≡ rows_in answer)
    (i : List ℕ) (p : List Float) where
  same : (c : Checked) → outcome_of refused c answer rows i p ≡ large_of indices_of refused c answer rows i p
  same (Err fault) = refl
  same (Ok _) = refl

  pub wrote : (c : Checked) → (c ≡ Ok tt → All P rows) → Wrote rows_in P indices_of (outcome_of refused c answer rows i p)
  wrote c good =
      subst (Wrote rows_in P indices_of) (sym (same c)) (large-wrote P indices_of rows_in refused none answer rows count i p c good)

-- the first of two lists of checks
pub earlier : (cs ds : List Checked) → first_fault (cs ++ ds) ≡ Ok tt → first_fault cs ≡ Ok tt
earlier cs ds e = ((append-fine cs ds Iff.rfl Iff.rfl).0 e).0
