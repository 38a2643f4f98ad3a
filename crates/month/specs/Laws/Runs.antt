-- A run from zeros is the sum of what its first 10,000 layouts add, each report on the way being small. This holds for layouts of
-- any kind of which little is known (`Kind`).
use Rattle.std.specs.Prelude.{◌≡◌, Bool, ◌||◌, List, [], ◌∷◌, ◌++◌, ℕ, zero, suc, ◌+◌, ◌-◌, ◌*◌, ◌≤◌, ◌<◌, ltb, length, take, drop, replicate, Err}
use Rattle.std.proofs.Math.Path.{refl, ap}
use Rattle.std.proofs.Common.{sym, ◌∙◌, suc-mul, mul-le-mul_right, arith, le-ltb, le-leb, get_or-drop, take_all}
use Rattle.std.proofs.Math.Bool.{true, false}
use Rattle.std.proofs.lemmas.Bool.{lt-leb}
use Rattle.std.proofs.Math.Dec.{leb}
use Rattle.std.proofs.Math.Seq.{slice}
use Rattle.checks.specs.declared.fault.Fault.{Fault}
use Rattle.listing_pairs.specs.declared.row.Row.{Row}
use Rattle.month.specs.Report.{words, layouts, pairs, most_layouts, most_added, most_held, fresh, word, some_above, full, plus}
use Rattle.month.specs.Counted.{accepted_adds, adds}
use Rattle.month.specs.Given.{among, given}
use Rattle.month.specs.Run.{run_of, six_classes, sum_of}
use Rattle.month.specs.Laws.Words.{plus_none, length-plus, word-plus, zeros}
use Rattle.month.specs.Laws.Listings.{Adds}
use Rattle.month.specs.Laws.Added.{adds-one-layout}
use Rattle.listing_outcomes.specs.Answer.{Listed, ListingAnswer}

-- ---- sums of reports
pub plus-zeros : (n : ℕ) (a : List ℕ) → plus a (replicate n 0) ≡ a
plus-zeros zero a = plus_none a
plus-zeros (suc n) [] = refl
plus-zeros (suc n) (w ∷ a) =
    let e : w + 0 ≡ w = omega arith in ap (λ (x : ℕ). x ∷ plus a (replicate n 0)) e ∙ ap (λ (l : List ℕ). w ∷ l) (plus-zeros n a)

pub zeros-plus : (a : List ℕ) → plus (replicate (length a) 0) a ≡ a
zeros-plus [] = refl
zeros-plus (w ∷ a) =
    let e : 0 + w ≡ w = omega arith in
    ap (λ (x : ℕ). x ∷ plus (replicate (length a) 0) a) e ∙ ap (λ (l : List ℕ). w ∷ l) (zeros-plus a)

pub plus_assoc : (a b c : List ℕ) → length c ≤ length b → plus (plus a b) c ≡ plus a (plus b c)
plus_assoc [] [] [] h = refl
plus_assoc [] [] (z ∷ c) h = absurd (omega (arith, h))
plus_assoc [] (y ∷ b) [] h = refl
plus_assoc [] (y ∷ b) (z ∷ c) h = refl
plus_assoc (x ∷ a) [] [] h = refl
plus_assoc (x ∷ a) [] (z ∷ c) h = absurd (omega (arith, h))
plus_assoc (x ∷ a) (y ∷ b) [] h = refl
plus_assoc (x ∷ a) (y ∷ b) (z ∷ c) h =
    let e : x + y + z ≡ x + (y + z) = omega arith in
    ap (λ (n : ℕ). n ∷ plus (plus a b) c) e ∙ ap (λ (l : List ℕ). (x + (y + z)) ∷ l) (plus_assoc a b c (omega (arith, h)))

-- ---- a kind of layouts: what each of them answers and adds, and what it leaves of a report. A full report stays as it is, and
-- to any other the layout adds its words, which are small; a refusal is one of those that are given
pub record Kind {L : Type 0} (after : List ℕ → L → List ℕ) (answer : L → ListingAnswer) (rows : L → List Row) (pairs_of : L → ℕ) :
    Type 0 where
  pub if-full : (r : List ℕ) (l : L) → words ≤ length r → full r ≡ true → after r l ≡ r
  pub if-not : (r : List ℕ) (l : L) → words ≤ length r → full r ≡ false → after r l ≡ plus r (adds (answer l) (rows l))
  pub small : (l : L) → Adds (adds (answer l) (rows l))
  pub known : (l : L) (f : Fault) → answer l ≡ Err f → among f.number given ≡ true
  pub six : (l : L) (n k : ℕ) → answer l ≡ Listed n k → six_classes (accepted_adds (rows l) k) ≡ pairs_of l
  pub all : (l : L) (n k : ℕ) → answer l ≡ Listed n k → word (accepted_adds (rows l) k) pairs ≡ pairs_of l

-- ---- what each layout adds, and all of them together
module _ {L : Type 0} (answer : L → ListingAnswer) (rows : L → List Row) where
  abbrev pub adds_of : L → List ℕ
  adds_of l = adds (answer l) (rows l)

  abbrev pub total : List L → List ℕ
  total [] = fresh
  total (l ∷ ls) = plus (adds_of l) (total ls)

  pub one-layout : (l : L) → word (adds (answer l) (rows l)) layouts ≡ 1
  one-layout l = adds-one-layout (answer l) (rows l)

module _ {L : Type 0} {after : List ℕ → L → List ℕ} {answer : L → ListingAnswer} {rows : L → List Row} {pairs_of : L → ℕ}
    (kind : Kind after answer rows pairs_of) where
  abbrev its : L → List ℕ
  its = adds_of answer rows

  pub length-total : (ls : List L) → length (total answer rows ls) ≡ words
  length-total [] = refl
  length-total (l ∷ ls) = length-plus (its l) (total answer rows ls) ∙ (kind.small l).long

  pub word_total : (ls : List L) (k : ℕ) → k < words
      → word (total answer rows ls) k ≡ sum_of (λ l. word (adds (answer l) (rows l)) k) ls
  word_total [] k h = zeros words k
  word_total (l ∷ ls) k h =
      word-plus (its l) (total answer rows ls) k (omega (arith, h, (kind.small l).long))
      ∙ ap (λ (n : ℕ). word (its l) k + n) (word_total ls k h)

  pub total-append : (ks ls : List L) → total answer rows (ks ++ ls) ≡ plus (total answer rows ks) (total answer rows ls)
  total-append [] ls =
      sym (ap (λ (n : ℕ). plus (replicate n 0) (total answer rows ls)) (sym (length-total ls))
      ∙ zeros-plus (total answer rows ls))
  total-append (k ∷ ks) ls =
      ap (plus (its k)) (total-append ks ls)
      ∙ sym (plus_assoc (its k) (total answer rows ks) (total answer rows ls) (omega (arith, length-total ks, length-total ls)))

-- ---- a report grown from zeros: n layouts, and each word is small
pub record Grown (r : List ℕ) (n : ℕ) : Type 0 where
  pub long : length r ≡ words
  pub counts : word r layouts ≡ n
  pub each : (k : ℕ) → word r k ≤ n * most_added

pub fresh-grown : Grown fresh 0
fresh-grown = record { long = refl; counts = refl; each = λ k. omega (arith, zeros words k) }

none_above : (limit : ℕ) (l : List ℕ) → ((k : ℕ) → word l k ≤ limit) → some_above limit l ≡ false
none_above limit [] h = refl
none_above limit (w ∷ l) h =
    ap (λ (b : Bool). b || some_above limit l) (le-ltb limit w (h 0)) ∙ none_above limit l (λ k. h (suc k))

module _ {r : List ℕ} {n : ℕ} (g : Grown r n) (few : n ≤ most_layouts) where
  held : (k : ℕ) → word r k ≤ most_held
  held k = omega (arith, g.each k, mul-le-mul_right most_added few)

  pub never-large : some_above most_held (slice pairs words r) ≡ false
  never-large =
      none_above most_held (slice pairs words r)
      (λ k. omega (
        arith,
        get_or-drop 1 (take words r) k 0,
        ap (λ (l : List ℕ). word l (1 + k)) (take_all words r (omega (arith, g.long))),
        held (1 + k),
      ))

  pub full-grown : full r ≡ leb most_layouts n
  unfolding full
  full-grown =
      ap (λ (b : Bool). leb most_layouts (word r layouts) || b) never-large
      ∙ or-false (leb most_layouts (word r layouts))
      ∙ ap (leb most_layouts) g.counts
    where
      or-false : (b : Bool) → (b || false) ≡ b
      or-false true = refl
      or-false false = refl

-- one layout more
at-most-lem : (a b : List ℕ) (k : ℕ) → word (plus a b) k ≤ word a k + word b k
at-most-lem [] [] k = omega arith
at-most-lem [] (x ∷ b) k = omega arith
at-most-lem (w ∷ a) [] k = omega arith
at-most-lem (w ∷ a) (x ∷ b) zero = omega arith
at-most-lem (w ∷ a) (x ∷ b) (suc k) = at-most-lem a b k

module _ {L : Type 0} {after : List ℕ → L → List ℕ} {answer : L → ListingAnswer} {rows : L → List Row} {pairs_of : L → ℕ}
    (kind : Kind after answer rows pairs_of) where
  abbrev added : L → List ℕ
  added = adds_of answer rows

  abbrev sum : List L → List ℕ
  sum = total answer rows

  grown-more : {r : List ℕ} {n : ℕ} (l : L) → Grown r n → Grown (plus r (added l)) (suc n)
  grown-more {r} {n} l g =
      record {
        long = length-plus r (added l) ∙ g.long;
        counts = omega (arith, word-plus r (added l) 0 (omega (arith, g.long)), g.counts, one-layout answer rows l);
        each = λ k. omega (arith, at-most-lem r (added l) k, g.each k, (kind.small l).small k, suc-mul n most_added);
      }

  -- the report after a layout
  module _ {r : List ℕ} {n : ℕ} (l : L) (g : Grown r n) (few : n ≤ most_layouts) where
    after-full : most_layouts ≤ n → after r l ≡ r
    after-full h = kind.if-full r l (omega (arith, g.long)) (full-grown g few ∙ le-leb most_layouts n h)

    after-counted : n < most_layouts → after r l ≡ plus r (added l)
    after-counted h = kind.if-not r l (omega (arith, g.long)) (full-grown g few ∙ lt-leb most_layouts n h)

  -- a run from a grown report with room for j layouts more
  run-total : (ls : List L) (r : List ℕ) (n j : ℕ) → Grown r n → n + j ≡ most_layouts
      → run_of after r ls ≡ plus r (sum (take j ls))
  run-total [] r n zero g e = sym (plus-zeros words r)
  run-total [] r n (suc j) g e = sym (plus-zeros words r)
  run-total (l ∷ ls) r n zero g e =
      ap (λ (x : List ℕ). run_of after x ls) (after-full l g (omega (arith, e)) (omega (arith, e))) ∙ run-total ls r n zero g e
  run-total (l ∷ ls) r n (suc j) g e =
      ap (λ (x : List ℕ). run_of after x ls) (after-counted l g (omega (arith, e)) (omega (arith, e)))
      ∙ run-total ls (plus r (added l)) (suc n) j (grown-more l g) (omega (arith, e))
      ∙ plus_assoc r (added l) (sum (take j ls)) (omega (arith, (kind.small l).long, length-total kind (take j ls)))

  pub grown-total : (ls : List L) → Grown (total answer rows ls) (length ls)
  grown-total [] = fresh-grown
  grown-total (l ∷ ls) = more l ls (grown-total ls)
    where
      more : (l : L) (ls : List L) → Grown (sum ls) (length ls) → Grown (plus (added l) (sum ls)) (suc (length ls))
      more l ls g =
          record {
            long = length-total kind (l ∷ ls);
            counts =
                omega (
                  arith,
                  word-plus (added l) (sum ls) 0 (omega (arith, (kind.small l).long)),
                  g.counts,
                  one-layout answer rows l,
                );
            each =
                λ k. omega (
                  arith,
                  at-most-lem (added l) (sum ls) k,
                  g.each k,
                  (kind.small l).small k,
                  suc-mul (length ls) most_added,
                );
          }

  pub run_is : (ls : List L) → run_of after fresh ls ≡ total answer rows (take most_layouts ls)
  run_is ls =
      run-total ls fresh 0 most_layouts fresh-grown refl
      ∙ ap (λ (n : ℕ). plus (replicate n 0) (sum (take most_layouts ls))) (sym (length-total kind (take most_layouts ls)))
      ∙ zeros-plus (sum (take most_layouts ls))
