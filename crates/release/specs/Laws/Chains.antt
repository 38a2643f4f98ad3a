-- What holds of each row of every page of a chain holds of each row that is joined.
use Rattle.std.specs.Prelude.{◌≡◌, refl, List, [], ◌∷◌, ◌++◌, ℕ, ◌+◌, ◌*◌, Float, length, take, Err, Ok}
use Rattle.std.proofs.Common.{sym, ap, ◌∙◌, subst, length-append}
use Rattle.float_laws.specs.Flat.{flat}
use Rattle.float_laws.specs.Stores.{flat_append, flat-length}
use Rattle.listing_pairs.specs.declared.row.Row.{Row}
use Rattle.listing_pairs.specs.Row.{indices_a_row, points_a_row, indices_of, points_of}
use Rattle.listing_outcomes.specs.Answer.{PageAnswer}
use Rattle.listing_outcomes.specs.Outcome.{Outcome}
use Rattle.listing_calls.specs.Chain.{Lent, Joined, joined, chain}
use Rattle.large_outcomes.specs.LargeRow.{large_indices_a_row}
use Rattle.large_listings.specs.LargeChain.{large_joined, large_chain}
use Rattle.release.specs.Words.{BeginsWith, Written, Wrote, Joins, paged}
use Rattle.release.specs.Laws.Rows.{each_append, none_written}

-- ---- one list after another
begins-append : {A : Type 0} (x y rest : List A) → BeginsWith y rest → BeginsWith (x ++ y) (x ++ rest)
begins-append [] y rest h = h
begins-append (c ∷ x) y rest h = ap (λ (l : List _). c ∷ l) (begins-append x y rest h)

read : {A : Type 0} (w n : ℕ) (words : Row → List A) → ((r : Row) → length (words r) ≡ w) → (rows : List Row) → length rows ≡ n
    → (slice : List A) → BeginsWith (flat words rows) slice → take (n * w) slice ≡ flat words rows
read w n words wide rows count slice h =
    ap (λ (k : ℕ). take k slice) (sym (flat-length words w wide rows ∙ ap (λ (k : ℕ). k * w) count)) ∙ h

joined-begins : {A : Type 0} (w n : ℕ) (words : Row → List A) → ((r : Row) → length (words r) ≡ w)
    → (rows more : List Row) → length rows ≡ n
    → (slice rest : List A) → BeginsWith (flat words rows) slice → BeginsWith (flat words more) rest
    → BeginsWith (flat words (rows ++ more)) (take (n * w) slice ++ rest)
joined-begins {A} w n words wide rows more count slice rest h k =
    subst (λ (l : List A). BeginsWith (flat words (rows ++ more)) (l ++ rest)) (sym (read w n words wide rows count slice h))
    (subst (λ (l : List A). BeginsWith l (flat words rows ++ rest)) (sym (flat_append words rows more))
    (begins-append (flat words rows) (flat words more) rest k))

-- ---- one page after another
module _ (P : Row → Type 0) (words : Row → List ℕ) (w : ℕ) (wide : (r : Row) → length (words r) ≡ w) where
  step : (n m : ℕ) (i j : List ℕ) (p q : List Float) → Written P words points_of n i p → Written P words points_of m j q
      → Written P words points_of (n + m) (take (n * w) i ++ j) (take (n * points_a_row) p ++ q)
  step n m i j p q a b =
      record {
        rows = a.rows ++ b.rows;
        count =
            length-append a.rows b.rows
            ∙ ap (λ (k : ℕ). k + length b.rows) a.count
            ∙ ap (λ (k : ℕ). n + k) b.count;
        indices-are = joined-begins w n words wide a.rows b.rows a.count i j a.indices-are b.indices-are;
        points-are = joined-begins points_a_row n points_of (λ r. refl) a.rows b.rows a.count p q a.points-are
            b.points-are;
        all = each_append P a.rows b.rows a.all b.all;
      }

-- ---- the chains of both modes
module _ (P : Row → Type 0) (call : ℕ → Lent → Outcome PageAnswer)
    (good : (position : ℕ) (l : Lent) → Wrote paged P indices_of (call position l)) where
  one : (a : PageAnswer) (i : List ℕ) (p : List Float) (rest : ℕ → Joined) → Written P indices_of points_of (paged a) i p
      → ((next : ℕ) → Joins P indices_of (rest next)) → Joins P indices_of (joined a i p rest)
  one (Err fault) i p rest h more = none_written P indices_of points_of [] []
  one (Ok counts) i p rest h more =
      step P indices_of indices_a_row (λ r. refl) counts.rows (rest counts.next).rows i (rest counts.next).indices p (rest counts.next).points h (more counts.next)

  pub joins : (position : ℕ) (lents : List Lent) → Joins P indices_of (chain call position lents)
  joins position [] = none_written P indices_of points_of [] []
  joins position (l ∷ more) =
      let o = call position l in
      one o.answer o.indices o.points (λ next. chain call next more) (good position l) (λ next. joins next more)

module _ (P : Row → Type 0) (words : Row → List ℕ) (wide : (r : Row) → length (words r) ≡ large_indices_a_row)
    (call : ℕ → Lent → Outcome PageAnswer) (good : (position : ℕ) (l : Lent) → Wrote paged P words (call position l)) where
  one-large : (a : PageAnswer) (i : List ℕ) (p : List Float) (rest : ℕ → Joined) → Written P words points_of (paged a) i p
      → ((next : ℕ) → Joins P words (rest next)) → Joins P words (large_joined a i p rest)
  one-large (Err fault) i p rest h more = none_written P words points_of [] []
  one-large (Ok counts) i p rest h more =
      step P words large_indices_a_row wide counts.rows (rest counts.next).rows i (rest counts.next).indices p (rest counts.next).points h (more counts.next)

  pub large-joins : (position : ℕ) (lents : List Lent) → Joins P words (large_chain call position lents)
  large-joins position [] = none_written P words points_of [] []
  large-joins position (l ∷ more) =
      let o = call position l in
      one-large o.answer o.indices o.points (λ next. large_chain call next more) (good position l)
      (λ next. large-joins next more)
