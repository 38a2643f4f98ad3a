-- What a caller of `pack_layout` may rely on, if there is room. Refusal 10 is given to the texts of no layout within the limits.
use Rattle.std.specs.Prelude.{ℕ, ◌≤◌, ◌≡◌, ◌↔◌, ◌⊎◌, List, Result, Ok, Err}
use Rattle.std.proofs.Math.Path.{refl}
use Rattle.std.proofs.Common.{sym, ap, ◌∙◌, arith, le-ltb}
use Rattle.std.proofs.Math.Logic.{inl, inr}
use Rattle.std.proofs.Math.ListN.{length}
use Rattle.layouts.specs.Layout.{Layout, Within}
use Rattle.layout_text.specs.Form.{text_of, refusal}
use Rattle.layout_text.specs.Exactly.{read-is-text, refused-no-text, no-text-refused}
use Rattle.layout_text.specs.Workings.Reader.{Taken, reads}
use Rattle.layout_packed.specs.Limits as packed_sizes
use Rattle.layout_packed.specs.Packed.{packed_of}
use Rattle.layout_packed.specs.Lengths.{longest}
use Rattle.layout_moves.specs.Moves.{packed_or, pack, answer_of, PackLayout}
use Rattle.layout_moves.specs.BackAndForth.{pack-text}
use Rattle.layout_moves.specs.MovePromise.{Whole, whole}
use Rattle.layout_moves.specs.Laws.Given.{to-broken}
use Rattle.layout_moves.specs.declared.MoveError.{MoveError}
use Rattle.layout_moves.specs.declared.MoveError.TheVariants.{Refused}

module _ (text : List ℕ) {r : Result ℕ MoveError} {old now : List ℕ} (m : PackLayout text r old now)
    (enough : packed_sizes.longest ≤ length old) where
  -- the text of a layout within the limits is packed
  pub packed-when : (l : Layout) → Within l → text ≡ text_of l → Whole (packed_of l) r old now
  packed-when l w e = whole m enough (packed_of l) (ap pack e ∙ pack-text l w) (longest l w)

  -- refusal 10 is the answer if and only if the text is that of no layout within the limits
  pub refused-when : (r ≡ Err (Refused refusal)) ↔ ((l : Layout) → Within l → text ≡ text_of l → ⊥)
  unfolding pack
  refused-when = (
    λ e. refused-no-text text (to-broken (reads text) (sym (m.answer-is ∙ rw (le-ltb _ _ enough)) ∙ e)),
    λ none. m.answer-is ∙ rw (le-ltb _ _ enough, no-text-refused text none),
  )

  -- there is no other answer: the text is packed within the room, or refused with 10
  pub pack-answers : ((n : ℕ) × (r ≡ Ok n) × (n ≤ length old)) ⊎ (r ≡ Err (Refused refusal))
  unfolding pack
  pack-answers = go (reads text) refl (m.answer-is ∙ rw (le-ltb _ _ enough))
    where
      go : (t : Taken) → reads text ≡ t → r ≡ answer_of (packed_or t)
          → ((n : ℕ) × (r ≡ Ok n) × (n ≤ length old)) ⊎ (r ≡ Err (Refused refusal))
      go Taken.broken is e = inr e
      go (Taken.layout l) is e = inl (length (packed_of l), e, omega (arith, longest l (read-is-text text l is).1))
