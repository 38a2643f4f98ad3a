-- What a chain of pages gives in the mode of large arcs, for any sequence of pairs and any list of budgets and lent slices: if no
-- call was refused, its joined rows are those of the pairs from its first position to its last. Each call before the end passes
-- at least one pair, so a chain that stops at the end has no more calls than there are pairs.
use Rattle.checks.specs.Checked.{Checked}
use Rattle.std.specs.Prelude.{◌≡◌, refl, Bool, true, false, List, [], ◌∷◌, ◌++◌, ℕ, ◌+◌, ◌-◌, ◌*◌, ◌≤◌, ◌<◌, Float, length, take, drop, Err, Ok}
use Rattle.std.proofs.Common.{sym, ap, ◌∙◌, true≢false, arith, length-append, take_all}
use Rattle.listing_pairs.specs.declared.row.Row.{Row}
use Rattle.listing_pairs.specs.declared.row.Look.{Look}
use Rattle.listing_pairs.specs.Order.{Pair}
use Rattle.listing_pairs.specs.Row.{points_of, numbers_of_rows}
use Rattle.listing_pairs.specs.Rows.{rows_of}
use Rattle.listing_outcomes.specs.Answer.{PageAnswer}
use Rattle.listing_outcomes.specs.Outcome.{Outcome}
use Rattle.listing_calls.specs.Chain.{Lent, Joined, no_call, BeforeEnd, Before, between}
use Rattle.listing_calls.specs.Laws.Chains.{next-within, goes_on, its-count, passes, rows_join, numbers-join}
use Rattle.large_outcomes.specs.LargeRow.{large_indices_a_row}
use Rattle.large_outcomes.specs.LargeOutcome.{large_page_outcome}
use Rattle.large_listings.specs.LargeListings.{
  mutual_numbers,
  mutual_large_checks,
  mutual_large_look,
  mutual_large_pairs,
  mutual_page_large,
  self_numbers,
  self_large_checks,
  self_large_look,
  self_large_pairs,
  self_page_large,
}
use Rattle.large_listings.specs.LargeChain.{large_joined, large_chain}
use Rattle.large_listings.specs.Laws.LargeChains.{as_called, read-large, read-points}

-- ---- what was joined from a position on
pub record LargeChained (numbers : Row → List ℕ) (look : ℕ → ℕ → Look) (ps : List Pair) (position : ℕ) (j : Joined) : Type 0 where
  pub forward : position ≤ j.next
  pub within : position ≤ length ps → j.next ≤ length ps
  pub pairs : position + j.pairs ≡ j.next
  pub rows : j.rows ≡ length (rows_of look (between position j.next ps))
  pub indices : j.indices ≡ numbers_of_rows numbers (rows_of look (between position j.next ps))
  pub points : j.points ≡ numbers_of_rows points_of (rows_of look (between position j.next ps))

-- ---- from the first pair to the end: all pairs were passed, and the rows are all rows
pub record LargeWhole (numbers : Row → List ℕ) (look : ℕ → ℕ → Look) (ps : List Pair) (j : Joined) : Type 0 where
  pub pairs : j.pairs ≡ length ps
  pub rows : j.rows ≡ length (rows_of look ps)
  pub indices : j.indices ≡ numbers_of_rows numbers (rows_of look ps)
  pub points : j.points ≡ numbers_of_rows points_of (rows_of look ps)

module _ (numbers : Row → List ℕ) (wide : (r : Row) → length (numbers r) ≡ large_indices_a_row) (checks : List Checked)
    (look : ℕ → ℕ → Look) (ps : List Pair) where
  abbrev pages : ℕ → Lent → Outcome PageAnswer
  pages position l = large_page_outcome numbers checks look ps position l.budget l.indices l.points

  empty : (p : ℕ) → between p p ps ≡ []
  empty p = let none : p - p ≡ 0 = omega arith in ap (λ (n : ℕ). take n (drop p ps)) none

  no-call-lem : (position : ℕ) → LargeChained numbers look ps position (no_call position)
  no-call-lem position =
      let rows = ap (rows_of look) (sym (empty position)) in
      record {
        forward = omega arith;
        within = λ h. h;
        pairs = omega arith;
        rows = ap length rows;
        indices = ap (numbers_of_rows numbers) rows;
        points = ap (numbers_of_rows points_of) rows;
      }

  one-call : (position : ℕ) (l : Lent) (rest : ℕ → Joined) (a : PageAnswer) → (pages position l).answer ≡ a
      → (large_joined a (pages position l).indices (pages position l).points rest).refused ≡ false
      → ((next : ℕ) → (rest next).refused ≡ false → LargeChained numbers look ps next (rest next))
      → LargeChained numbers look ps position (large_joined a (pages position l).indices (pages position l).points rest)
  one-call position l rest (Err n) e fine more = absurd (true≢false fine)
  one-call position l rest (Ok counts) e fine more =
      let c = as_called numbers wide checks look ps position l.budget l.indices l.points e in
      let m = more counts.next fine in
      let on : position ≤ counts.next = omega (arith, goes_on c) in
      record {
        forward = omega (arith, on, m.forward);
        within = λ h. m.within (next-within c);
        pairs = omega (arith, goes_on c, m.pairs);
        rows =
            omega (
              arith,
              its-count c,
              m.rows,
              ap length (rows_join look position counts.next (rest counts.next).next ps on m.forward),
              length-append (rows_of look (between position counts.next ps)) (rows_of look (between counts.next (rest counts.next).next ps)),
            );
        indices =
            ap (λ (l : List ℕ). l ++ (rest counts.next).indices)
            (read-large numbers wide checks look ps position l.budget l.indices l.points e)
            ∙ ap (λ (l : List ℕ). numbers_of_rows numbers (rows_of look (between position counts.next ps)) ++ l) m.indices
            ∙ sym (numbers-join numbers look position counts.next (rest counts.next).next ps on m.forward);
        points =
            ap (λ (l : List Float). l ++ (rest counts.next).points)
            (read-points numbers wide checks look ps position l.budget l.indices l.points e)
            ∙ ap (λ (l : List Float). numbers_of_rows points_of (rows_of look (between position counts.next ps)) ++ l) m.points
            ∙ sym (numbers-join points_of look position counts.next (rest counts.next).next ps on m.forward);
      }

  -- a chain that is not refused joins to the rows of the pairs between its first position and its last
  pub large-chained : (lents : List Lent) (position : ℕ) → (large_chain pages position lents).refused ≡ false
      → LargeChained numbers look ps position (large_chain pages position lents)
  large-chained [] position fine = no-call-lem position
  large-chained (l ∷ more) position fine =
      one-call position l (λ next. large_chain pages next more) (pages position l).answer refl fine
      (λ next. large-chained more next)

  large-whole : (lents : List Lent) → (large_chain pages 0 lents).refused ≡ false → (large_chain pages 0 lents).next ≡ length ps
      → LargeWhole numbers look ps (large_chain pages 0 lents)
  large-whole lents fine end =
      let c = large-chained lents 0 fine in
      let all : between 0 (large_chain pages 0 lents).next ps ≡ ps =
      ap (λ (n : ℕ). between 0 n ps) end ∙ take_all (length ps - 0) ps (omega arith) in
      record {
        pairs = omega (arith, c.pairs, end);
        rows = c.rows ∙ ap (λ (l : List Pair). length (rows_of look l)) all;
        indices = c.indices ∙ ap (λ (l : List Pair). numbers_of_rows numbers (rows_of look l)) all;
        points = c.points ∙ ap (λ (l : List Pair). numbers_of_rows points_of (rows_of look l)) all;
      }

  -- ---- a chain of calls before the end has no more calls than pairs that it passed
  one-counts : (position : ℕ) (l : Lent) (calls : ℕ) (rest : ℕ → Joined) (Rest : ℕ → Type 0) (a : PageAnswer)
      → (pages position l).answer ≡ a → position < length ps → BeforeEnd a Rest
      → (large_joined a (pages position l).indices (pages position l).points rest).refused ≡ false
      → ((next : ℕ) → Rest next → (rest next).refused ≡ false → calls ≤ (rest next).pairs)
      → calls + 1 ≤ (large_joined a (pages position l).indices (pages position l).points rest).pairs
  one-counts position l calls rest Rest (Err n) e before early fine more = absurd (true≢false fine)
  one-counts position l calls rest Rest (Ok counts) e before early fine more =
      let c = as_called numbers wide checks look ps position l.budget l.indices l.points e in
      omega (arith, passes c before, more counts.next early fine)

  pub few-calls : (lents : List Lent) (position : ℕ) → Before (length ps) pages position lents
      → (large_chain pages position lents).refused ≡ false → length lents ≤ (large_chain pages position lents).pairs
  few-calls [] position early fine = omega arith
  few-calls (l ∷ more) position early fine =
      omega (
        arith,
        one-counts position l (length more) (λ next. large_chain pages next more) (λ next. Before (length ps) pages next more)
            (pages position l).answer refl early.0 early.1 fine (λ next. few-calls more next),
      )

-- ---- two paths
module _ (first : List Float) (first_closed : Bool) (second : List Float) (second_closed : Bool) (epsilon : Float) where
  abbrev pub mutual_large_chain : List Lent → Joined
  mutual_large_chain lents =
      large_chain (λ position l. mutual_page_large first first_closed second second_closed epsilon position l.budget l.indices
      l.points) 0 lents

  -- the rows that are joined are those of the listing: LargeListings has the same five numbers, look and pairs
  pub mutual-large-whole : (lents : List Lent) → (mutual_large_chain lents).refused ≡ false
      → (mutual_large_chain lents).next ≡ length (mutual_large_pairs first first_closed second second_closed)
      → LargeWhole (mutual_numbers first first_closed second second_closed)
      (mutual_large_look first first_closed second second_closed epsilon)
      (mutual_large_pairs first first_closed second second_closed) (mutual_large_chain lents)
  unfolding mutual_page_large
  mutual-large-whole lents =
      large-whole (mutual_numbers first first_closed second second_closed) (λ r. refl)
      (mutual_large_checks first first_closed second second_closed epsilon)
      (mutual_large_look first first_closed second second_closed epsilon)
      (mutual_large_pairs first first_closed second second_closed) lents

-- ---- one path
module _ (path : List Float) (closed : Bool) (epsilon : Float) where
  abbrev pub self_large_chain : List Lent → Joined
  self_large_chain lents =
      large_chain (λ position l. self_page_large path closed epsilon position l.budget l.indices l.points) 0 lents

  pub self-large-whole : (lents : List Lent) → (self_large_chain lents).refused ≡ false
      → (self_large_chain lents).next ≡ length (self_large_pairs path closed)
      → LargeWhole (self_numbers path closed) (self_large_look path closed epsilon) (self_large_pairs path closed)
      (self_large_chain lents)
  unfolding self_page_large
  self-large-whole lents =
      large-whole (self_numbers path closed) (λ r. refl) (self_large_checks path closed epsilon) (self_large_look path closed epsilon)
      (self_large_pairs path closed) lents
