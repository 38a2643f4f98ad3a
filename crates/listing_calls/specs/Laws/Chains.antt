-- Chains of pages, step by step: what one call gives, and how it joins to the rest.
use Rattle.checks.specs.Checked.{Checked}
use Rattle.std.specs.Prelude.{◌≡◌, Bool, true, false, ◌≢◌, List, [], ◌∷◌, ◌++◌, ℕ, zero, suc, ◌+◌, ◌-◌, ◌*◌, ◌≤◌, ◌<◌, Float, length, take, drop, Err, Ok}
use Rattle.std.proofs.Math.Path.{refl}
use Rattle.std.proofs.Common.{sym, ap, ◌∙◌, true≢false, zero-add, arith, length-append, length-drop, take_all, take_at, drop-drop}
use Rattle.checks.specs.declared.fault.Fault.{Fault}
use Rattle.checks.specs.Fault.{later}
use Rattle.checks.specs.First.{first as first_fault}
use Rattle.checks.specs.Laws.Chains.{first-append}
use Rattle.checks.specs.Laws.Later.{later-fine}
use Rattle.listing_pairs.specs.declared.row.Row.{Row}
use Rattle.listing_pairs.specs.declared.row.Look.{Look}
use Rattle.listing_pairs.specs.Order.{Pair}
use Rattle.listing_pairs.specs.Row.{indices_a_row, points_a_row, indices_of, points_of, numbers_of_rows}
use Rattle.listing_pairs.specs.Rows.{rows_of}
use Rattle.listing_pairs.specs.Page.{Page, page}
use Rattle.float_laws.specs.Stores.{flat_append, flat-length}
use Rattle.listing_loop.specs.Laws.Pages.{joins, taken, passes-one}
use Rattle.listing_outcomes.specs.Answer.{PageAnswer, Paged}
use Rattle.listing_outcomes.specs.Outcome.{Outcome, overwrite, room}
use Rattle.listing_outcomes.specs.PageOutcome.{position_check, budget_check, row_check, limits, paged_of, page_outcome}
use Rattle.listing_outcomes.specs.Laws.Counts.{same-page-rows, same-page-pairs, same-next, same-all}
use Rattle.listing_calls.specs.PageRefusals.{position-fine, budget-fine, row_fine}
use Rattle.listing_calls.specs.Chain.{Lent, Joined, joined, chain, BeforeEnd, Before, between}
use Rattle.listing_calls.specs.Laws.Complete.{rows_append}

-- ---- one call that is not refused
never : {f : Fault} {r p q a : ℕ} → Err f ≡ Paged r p q a → ⊥
never e = let z : ◌≡◌ {A = ℕ} 0 1 = cc in omega (arith, z)

-- the position is within, there is a budget and room for a row, and the answer and the slices are those of the page
pub record Called (look : ℕ → ℕ → Look) (ps : List Pair) (position budget : ℕ) (i₀ : List ℕ) (p₀ : List Float)
    (o : Outcome PageAnswer) (rows pairs next all : ℕ) : Type 0 where
  pub within : position ≤ length ps
  pub some : 0 < budget
  pub fits : 0 < room i₀ p₀
  pub rows_are : rows ≡ length (page look (drop position ps) (room i₀ p₀) budget).rows
  pub pairs-are : pairs ≡ (page look (drop position ps) (room i₀ p₀) budget).passed
  pub next-is : next ≡ position + (page look (drop position ps) (room i₀ p₀) budget).passed
  pub all_are : all ≡ length ps
  pub indices : o.indices ≡ overwrite i₀ (numbers_of_rows indices_of (page look (drop position ps) (room i₀ p₀) budget).rows)
  pub points : o.points ≡ overwrite p₀ (numbers_of_rows points_of (page look (drop position ps) (room i₀ p₀) budget).rows)

module _ (checks : List Checked) (look : ℕ → ℕ → Look) (ps : List Pair) (position budget : ℕ)
    (i₀ : List ℕ) (p₀ : List Float) where
  abbrev q : Page
  q = page look (drop position ps) (room i₀ p₀) budget

  abbrev lasts : List Checked
  lasts = limits position (length ps) budget i₀ p₀

  positive : (n : ℕ) → n ≢ 0 → 0 < n
  positive zero h = absurd (h refl)
  positive (suc n) h = omega arith

  fine-within : first_fault lasts ≡ Ok tt → (position ≤ length ps) × (0 < budget) × (0 < room i₀ p₀)
  fine-within e =
      let a = (later-fine (position_check position (length ps)) (later (budget_check budget) (later (row_check i₀ p₀) (Ok tt)))).0 e in
      let b = (later-fine (budget_check budget) (later (row_check i₀ p₀) (Ok tt))).0 a.1 in
      let c = (later-fine (row_check i₀ p₀) (Ok tt)).0 b.1 in (
        (position-fine position (length ps)).0 a.0,
        positive budget ((budget-fine budget).0 b.0),
        positive (room i₀ p₀) ((row_fine i₀ p₀).0 c.0),
      )

  of-checked : (c : Checked) → first_fault (checks ++ lasts) ≡ c → {rows pairs next all : ℕ}
      → (paged_of c q position (length ps) i₀ p₀).answer ≡ Paged rows pairs next all
      → Called look ps position budget i₀ p₀ (paged_of c q position (length ps) i₀ p₀) rows pairs next all
  of-checked (Err fault) e h = absurd (never h)
  of-checked (Ok _) e h =
      let both = (later-fine (first_fault checks) (first_fault lasts)).0 (sym (first-append checks lasts) ∙ e) in
      let fine = fine-within both.1 in
      record {
        within = fine.0;
        some = fine.1;
        fits = fine.2;
        rows_are = sym (same-page-rows h);
        pairs-are = sym (same-page-pairs h);
        next-is = sym (same-next h);
        all_are = sym (same-all h);
        indices = refl;
        points = refl;
      }

  pub called : {rows pairs next all : ℕ} → (page_outcome checks look ps position budget i₀ p₀).answer ≡ Paged rows pairs next all
      → Called look ps position budget i₀ p₀ (page_outcome checks look ps position budget i₀ p₀) rows pairs next all
  unfolding page_outcome
  called h = of-checked (first_fault (checks ++ lasts)) refl h

-- ---- lists
module _ {A : Type 0} where
  take_more : (a b : ℕ) (l : List A) → take (a + b) l ≡ take a l ++ take b (drop a l)
  take_more zero b l = ap (λ (n : ℕ). take n l) (zero-add b)
  take_more (suc a) b [] = take_all (suc a + b) [] (omega arith) ∙ sym (take_all b [] (omega arith))
  take_more (suc a) b (x ∷ l) =
      let e : suc a + b ≡ suc (a + b) = omega arith in
      ap (λ (n : ℕ). take n (x ∷ l)) e ∙ ap (λ (r : List A). x ∷ r) (take_more a b l)

-- the pairs from p to r are those from p to q and those from q to r
pub between-joins : (p q r : ℕ) (ps : List Pair) → p ≤ q → q ≤ r → between p r ps ≡ between p q ps ++ between q r ps
between-joins p q r ps h l =
    let whole : r - p ≡ (q - p) + (r - q) = omega (arith, h, l) in
    let there : p + (q - p) ≡ q = omega (arith, h) in
    ap (λ (n : ℕ). take n (drop p ps)) whole
    ∙ take_more (q - p) (r - q) (drop p ps)
    ∙ ap (λ (l : List Pair). take (q - p) (drop p ps) ++ take (r - q) l)
    (drop-drop (q - p) p ps ∙ ap (λ (n : ℕ). drop n ps) there)

-- ---- one call's rows, as read from its slices
module _ {look : ℕ → ℕ → Look} {ps : List Pair} {position budget : ℕ} {i₀ : List ℕ} {p₀ : List Float} {o : Outcome PageAnswer}
    {rows pairs next all : ℕ} (c : Called look ps position budget i₀ p₀ o rows pairs next all) where
  abbrev its : Page
  its = page look (drop position ps) (room i₀ p₀) budget

  pub next-within : next ≤ length ps
  next-within =
      omega (arith, (joins look (drop position ps) (room i₀ p₀) budget).passed, length-drop position ps, c.within, c.next-is)

  pub goes_on : position + pairs ≡ next
  goes_on = omega (arith, c.pairs-are, c.next-is)

  -- the rows of the pairs that it passed
  pub its-rows : its.rows ≡ rows_of look (between position next ps)
  its-rows =
      let passed : its.passed ≡ next - position = omega (arith, c.next-is) in
      taken look (drop position ps) (room i₀ p₀) budget
      ∙ ap (λ (n : ℕ). rows_of look (take n (drop position ps))) passed

  pub its-count : rows ≡ length (rows_of look (between position next ps))
  its-count = c.rows_are ∙ ap length its-rows

  read : {A : Type 0} (numbers : Row → List A) (width : ℕ) → ((r : Row) → length (numbers r) ≡ width)
      → (old slice : List A) → slice ≡ overwrite old (numbers_of_rows numbers its.rows)
      → take (rows * width) slice ≡ numbers_of_rows numbers (rows_of look (between position next ps))
  read {A} numbers width each old slice is =
      let written = numbers_of_rows numbers its.rows in
      let long : length written ≡ rows * width =
      flat-length numbers width each its.rows ∙ ap (λ (n : ℕ). n * width) (sym c.rows_are) in
      ap (λ (l : List A). take (rows * width) l) is
      ∙ take_at written (drop (length written) old) (rows * width) long
      ∙ ap (numbers_of_rows numbers) its-rows

  pub read-indices : take (rows * indices_a_row) o.indices ≡ numbers_of_rows indices_of (rows_of look (between position next ps))
  read-indices = read indices_of indices_a_row (λ r. refl) i₀ o.indices c.indices

  pub read-points : take (rows * points_a_row) o.points ≡ numbers_of_rows points_of (rows_of look (between position next ps))
  read-points = read points_of points_a_row (λ r. refl) p₀ o.points c.points

  -- a call before the end passes a pair
  pub passes : position < length ps → 0 < pairs
  passes before =
      let left : 0 < length (drop position ps) = omega (arith, length-drop position ps, before) in
      omega (arith, c.pairs-are, passes-one look (drop position ps) (room i₀ p₀) budget left c.fits c.some)

-- ---- rows of more pairs
pub rows_join : (look : ℕ → ℕ → Look) (p q r : ℕ) (ps : List Pair) → p ≤ q → q ≤ r
    → rows_of look (between p r ps) ≡ rows_of look (between p q ps) ++ rows_of look (between q r ps)
rows_join look p q r ps h l =
    ap (rows_of look) (between-joins p q r ps h l) ∙ rows_append look (between p q ps) (between q r ps)

pub numbers-join : {A : Type 0} (numbers : Row → List A) (look : ℕ → ℕ → Look) (p q r : ℕ) (ps : List Pair) → p ≤ q → q ≤ r
    → numbers_of_rows numbers (rows_of look (between p r ps))
    ≡ numbers_of_rows numbers (rows_of look (between p q ps)) ++ numbers_of_rows numbers (rows_of look (between q r ps))
numbers-join numbers look p q r ps h l =
    ap (numbers_of_rows numbers) (rows_join look p q r ps h l)
    ∙ flat_append numbers (rows_of look (between p q ps)) (rows_of look (between q r ps))
