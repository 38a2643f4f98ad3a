-- Values overwrite the front of a list: stored there, copied from the front of another list, and stored behind other values.
use Rattle.std.specs.Prelude.{◌≡◌, List, ◌++◌, ℕ, ◌+◌, ◌≤◌, length, take, drop}
use Rattle.std.proofs.Common.{sym, ap, ◌∙◌, append-nil, zero-add, arith, length-append, take_at}
use Rattle.std.proofs.Math.Seq.{paste, take-length, drop-length}
use Rattle.std.proofs.lemmas.List.Edits.{sets, sets-eq}
use Rattle.float_laws.specs.Stores.{sets-append}
use Rattle.listing_outcomes.specs.Outcome.{overwrite}

module _ {A : Type 0} where
  pub sets_over : (l vs : List A) → length vs ≤ length l → sets l 0 vs ≡ overwrite l vs
  sets_over l vs h =
      sets-eq vs l 0 (omega (arith, h)) ∙ ap (λ (k : ℕ). vs ++ drop k l) (zero-add (length vs))

  -- copied from the front of another list
  pub paste-over : (l b vs : List A) (n : ℕ) → n ≡ length vs → paste l 0 (overwrite b vs) n ≡ overwrite l vs
  paste-over l b vs n e =
      ap (λ (front : List A). front ++ drop (0 + n) l) (take_at vs (drop (length vs) b) n (sym e))
      ∙ ap (λ (k : ℕ). vs ++ drop k l) (zero-add n ∙ e)

  pub paste_all : (l vs : List A) (n : ℕ) → n ≡ length vs → paste l 0 vs n ≡ overwrite l vs
  paste_all l vs n e =
      ap (λ (k : ℕ). take k vs ++ drop (0 + n) l) e
      ∙ ap (λ (front : List A). front ++ drop (0 + n) l) (take-length vs)
      ∙ ap (λ (k : ℕ). vs ++ drop k l) (zero-add n ∙ e)

  -- nothing of the old list remains
  pub over-all : (l vs : List A) → length l ≡ length vs → overwrite l vs ≡ vs
  over-all l vs e =
      ap (λ (k : ℕ). vs ++ drop k l) (sym e) ∙ ap (λ (rest : List A). vs ++ rest) (drop-length l) ∙ append-nil vs

  -- stored behind others
  pub sets-beyond : (l vs ws : List A) (k : ℕ) → length vs ≡ k → k + length ws ≤ length l
      → sets (overwrite l vs) k ws ≡ overwrite l (vs ++ ws)
  sets-beyond l vs ws k e h =
      let first = sets_over l vs (omega (arith, e, h)) in
      ap (λ (d : List A). sets d k ws) (sym first)
      ∙ ap (λ (i : ℕ). sets (sets l 0 vs) i ws) (sym e ∙ sym (zero-add (length vs)))
      ∙ sets-append l 0 vs ws
      ∙ sets_over l (vs ++ ws) (omega (arith, length-append vs ws, e, h))
