-- Two answers that are no refusals are the same: then so are their counts.
use Rattle.std.specs.Prelude.{◌≡◌, ℕ, Result, Ok}
use Rattle.std.proofs.Common.{ap}
use Rattle.listing_outcomes.specs.declared.answer.Counts.{Counts}
use Rattle.listing_outcomes.specs.declared.answer.PageCounts.{PageCounts}
use Rattle.listing_outcomes.specs.Answer.{Listed, Paged}

same_ok : {A E : Type 0} (x y : A) → ◌≡◌ {A = Result A E} (Ok x) (Ok y) → x ≡ y
same_ok x y e = cc

module _ {n k m l : ℕ} (e : Listed n k ≡ Listed m l) where
  pub same-rows : n ≡ m
  same-rows = ap (λ (c : Counts). c.rows) (same_ok _ _ e)

  pub same-pairs : k ≡ l
  same-pairs = ap (λ (c : Counts). c.pairs) (same_ok _ _ e)

module _ {n k x a m l y b : ℕ} (e : Paged n k x a ≡ Paged m l y b) where
  pub same-page-rows : n ≡ m
  same-page-rows = ap (λ (c : PageCounts). c.rows) (same_ok _ _ e)

  pub same-page-pairs : k ≡ l
  same-page-pairs = ap (λ (c : PageCounts). c.pairs) (same_ok _ _ e)

  pub same-next : x ≡ y
  same-next = ap (λ (c : PageCounts). c.next) (same_ok _ _ e)

  pub same-all : a ≡ b
  same-all = ap (λ (c : PageCounts). c.all) (same_ok _ _ e)
