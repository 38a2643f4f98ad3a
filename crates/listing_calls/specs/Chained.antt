-- What a chain of pages gives, for any sequence of pairs and any list of budgets and lent slices: if no call was refused, its
-- joined rows are those of the pairs from its first position to its last. Each call before the end passes at least one pair, so
-- a chain that stops at the end has no more calls than there are pairs; and a call at the end gives nothing.
use Rattle.checks.specs.Checked.{Checked}
use Rattle.std.specs.Prelude.{◌≡◌, refl, true, false, List, [], ◌∷◌, ◌++◌, ℕ, ◌+◌, ◌-◌, ◌*◌, ◌≤◌, ◌<◌, Float, length, take, drop, Err, Ok}
use Rattle.std.proofs.Common.{sym, ap, ◌∙◌, true≢false, arith, length-append, length-drop, take_all}
use Rattle.listing_pairs.specs.declared.row.Row.{Row}
use Rattle.listing_pairs.specs.declared.row.Look.{Look}
use Rattle.listing_pairs.specs.Order.{Pair}
use Rattle.listing_pairs.specs.Row.{indices_a_row, points_a_row, indices_of, points_of, numbers_of_rows}
use Rattle.listing_pairs.specs.Rows.{rows_of}
use Rattle.listing_pairs.specs.Page.{page}
use Rattle.listing_loop.specs.Laws.Pages.{joins}
use Rattle.listing_outcomes.specs.Answer.{PageAnswer, Paged}
use Rattle.listing_outcomes.specs.Outcome.{Outcome, room}
use Rattle.listing_outcomes.specs.PageOutcome.{page_outcome}
use Rattle.listing_calls.specs.Chain.{Lent, Joined, no_call, joined, chain, BeforeEnd, Before, between}
use Rattle.listing_calls.specs.Laws.Chains.{
  Called,
  called,
  next-within,
  goes_on,
  its-count,
  read-indices,
  read-points,
  passes,
  rows_join,
  numbers-join,
}

-- the pages of a sequence of pairs: what a call at a position leaves
abbrev pub pages_of : List Checked → (ℕ → ℕ → Look) → List Pair → ℕ → Lent → Outcome PageAnswer
pages_of checks look ps position l = page_outcome checks look ps position l.budget l.indices l.points

-- ---- what was joined from a position on
pub record Chained (look : ℕ → ℕ → Look) (ps : List Pair) (position : ℕ) (j : Joined) : Type 0 where
  -- the last position is not before the first, and not beyond the end
  pub forward : position ≤ j.next
  pub within : position ≤ length ps → j.next ≤ length ps
  -- the pairs that were passed are those between
  pub pairs : position + j.pairs ≡ j.next
  -- and the rows are the rows of these pairs
  pub rows : j.rows ≡ length (rows_of look (between position j.next ps))
  pub indices : j.indices ≡ numbers_of_rows indices_of (rows_of look (between position j.next ps))
  pub points : j.points ≡ numbers_of_rows points_of (rows_of look (between position j.next ps))

module _ (checks : List Checked) (look : ℕ → ℕ → Look) (ps : List Pair) where
  abbrev pages : ℕ → Lent → Outcome PageAnswer
  pages position l = pages_of checks look ps position l

  empty : (p : ℕ) → between p p ps ≡ []
  empty p = let none : p - p ≡ 0 = omega arith in ap (λ (n : ℕ). take n (drop p ps)) none

  no-call-lem : (position : ℕ) → Chained look ps position (no_call position)
  no-call-lem position =
      let rows = ap (rows_of look) (sym (empty position)) in
      record {
        forward = omega arith;
        within = λ h. h;
        pairs = omega arith;
        rows = ap length rows;
        indices = ap (numbers_of_rows indices_of) rows;
        points = ap (numbers_of_rows points_of) rows;
      }

  one-call : (position : ℕ) (l : Lent) (rest : ℕ → Joined) (a : PageAnswer) → (pages position l).answer ≡ a
      → (joined a (pages position l).indices (pages position l).points rest).refused ≡ false
      → ((next : ℕ) → (rest next).refused ≡ false → Chained look ps next (rest next))
      → Chained look ps position (joined a (pages position l).indices (pages position l).points rest)
  one-call position l rest (Err n) e fine more = absurd (true≢false fine)
  one-call position l rest (Ok counts) e fine more =
      let c = called checks look ps position l.budget l.indices l.points e in
      let m = more counts.next fine in
      let on : position ≤ counts.next = omega (arith, goes_on c) in
      record {
        forward = omega (arith, on, m.forward);
        within = λ h. m.within (next-within c);
        pairs = omega (arith, goes_on c, m.pairs);
        rows =
            omega (
              arith,
              its-count c,
              m.rows,
              ap length (rows_join look position counts.next (rest counts.next).next ps on m.forward),
              length-append (rows_of look (between position counts.next ps)) (rows_of look (between counts.next (rest counts.next).next ps)),
            );
        indices =
            ap (λ (l : List ℕ). l ++ (rest counts.next).indices) (read-indices c)
            ∙ ap (λ (l : List ℕ). numbers_of_rows indices_of (rows_of look (between position counts.next ps)) ++ l) m.indices
            ∙ sym (numbers-join indices_of look position counts.next (rest counts.next).next ps on m.forward);
        points =
            ap (λ (l : List Float). l ++ (rest counts.next).points) (read-points c)
            ∙ ap (λ (l : List Float). numbers_of_rows points_of (rows_of look (between position counts.next ps)) ++ l) m.points
            ∙ sym (numbers-join points_of look position counts.next (rest counts.next).next ps on m.forward);
      }

  -- a chain that is not refused joins to the rows of the pairs between its first position and its last
  pub chained : (lents : List Lent) (position : ℕ) → (chain pages position lents).refused ≡ false
      → Chained look ps position (chain pages position lents)
  chained [] position fine = no-call-lem position
  chained (l ∷ more) position fine =
      one-call position l (λ next. chain pages next more) (pages position l).answer refl fine (λ next. chained more next)

  -- ---- from the first pair to the end
  pub record Whole (j : Joined) : Type 0 where
    pub pairs : j.pairs ≡ length ps
    pub rows : j.rows ≡ length (rows_of look ps)
    pub indices : j.indices ≡ numbers_of_rows indices_of (rows_of look ps)
    pub points : j.points ≡ numbers_of_rows points_of (rows_of look ps)

  pub whole : (lents : List Lent) → (chain pages 0 lents).refused ≡ false → (chain pages 0 lents).next ≡ length ps
      → Whole (chain pages 0 lents)
  whole lents fine end =
      let c = chained lents 0 fine in
      let all : between 0 (chain pages 0 lents).next ps ≡ ps =
      ap (λ (n : ℕ). between 0 n ps) end ∙ take_all (length ps - 0) ps (omega arith) in
      record {
        pairs = omega (arith, c.pairs, end);
        rows = c.rows ∙ ap (λ (l : List Pair). length (rows_of look l)) all;
        indices = c.indices ∙ ap (λ (l : List Pair). numbers_of_rows indices_of (rows_of look l)) all;
        points = c.points ∙ ap (λ (l : List Pair). numbers_of_rows points_of (rows_of look l)) all;
      }

  -- ---- each call before the end passes a pair
  module _ (position : ℕ) (l : Lent) {rows pairs next all : ℕ} (e : (pages position l).answer ≡ Paged rows pairs next all) where
    pub goes-forward : position < length ps → 0 < pairs
    goes-forward before = passes (called checks look ps position l.budget l.indices l.points e) before

    -- called at the end: no rows, no pairs, and the next position is the same
    pub at-end : position ≡ length ps → (rows ≡ 0) × (pairs ≡ 0) × (next ≡ position) × (all ≡ position)
    at-end end =
        let c = called checks look ps position l.budget l.indices l.points e in
        let q = joins look (drop position ps) (room l.indices l.points) l.budget in
        let none = length-drop position ps in
        let no-pair : pairs ≡ 0 = omega (arith, c.pairs-are, q.passed, none, end) in
        let here : next ≡ position = omega (arith, goes_on c, no-pair) in
        let no_row = its-count c ∙ ap (λ (n : ℕ). length (rows_of look (between position n ps))) here
        ∙ ap (λ (l : List Pair). length (rows_of look l)) (empty position) in
        (no_row, no-pair, here, omega (arith, c.all_are, end))

  -- ---- so a chain of calls before the end has no more calls than pairs that it passed
  one-counts : (position : ℕ) (l : Lent) (calls : ℕ) (rest : ℕ → Joined) (Rest : ℕ → Type 0) (a : PageAnswer)
      → (pages position l).answer ≡ a → position < length ps → BeforeEnd a Rest
      → (joined a (pages position l).indices (pages position l).points rest).refused ≡ false
      → ((next : ℕ) → Rest next → (rest next).refused ≡ false → calls ≤ (rest next).pairs)
      → calls + 1 ≤ (joined a (pages position l).indices (pages position l).points rest).pairs
  one-counts position l calls rest Rest (Err n) e before early fine more = absurd (true≢false fine)
  one-counts position l calls rest Rest (Ok counts) e before early fine more =
      omega (arith, goes-forward position l e before, more counts.next early fine)

  pub few-calls : (lents : List Lent) (position : ℕ) → Before (length ps) pages position lents
      → (chain pages position lents).refused ≡ false → length lents ≤ (chain pages position lents).pairs
  few-calls [] position early fine = omega arith
  few-calls (l ∷ more) position early fine =
      omega (
        arith,
        one-counts position l (length more) (λ next. chain pages next more) (λ next. Before (length ps) pages next more)
            (pages position l).answer refl early.0 early.1 fine (λ next. few-calls more next),
      )
