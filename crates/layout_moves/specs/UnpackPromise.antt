-- What a caller of `unpack_layout` may rely on, if there is room. Refusal 18, and the offset told with it, is as
-- layout_packed/specs/Fault.antt says.
use Rattle.std.specs.Prelude.{ℕ, ◌≤◌, ◌≡◌, ◌↔◌, ◌⊎◌, List, Result, Ok, Err}
use Rattle.std.proofs.Math.Path.{refl}
use Rattle.std.proofs.Common.{sym, ap, ◌∙◌, arith, le-ltb}
use Rattle.std.proofs.Math.Logic.{inl, inr}
use Rattle.std.proofs.Math.ListN.{length}
use Rattle.layouts.specs.Layout.{Layout, Within}
use Rattle.layout_text.specs.Form.{text_of}
use Rattle.layout_text.specs.Sizes as text_sizes
use Rattle.layout_text.specs.Long.{text-long}
use Rattle.layout_packed.specs.Packed.{packed_of}
use Rattle.layout_packed.specs.Fault.{FaultAt}
use Rattle.layout_packed.specs.Offset.{fault-told}
use Rattle.layout_packed.specs.Read.{refusal}
use Rattle.layout_packed.specs.Exactly.{read-is-packed, refused-no-layout, no-layout-refused}
use Rattle.layout_packed.specs.Workings.Reader.{Unpacked, reads_packed}
use Rattle.layout_moves.specs.Moves.{text_or, unpack, answer_of, UnpackLayout}
use Rattle.layout_moves.specs.BackAndForth.{unpack-packed}
use Rattle.layout_moves.specs.MovePromise.{Whole, whole}
use Rattle.layout_moves.specs.Laws.Given.{to-fault}
use Rattle.layout_moves.specs.declared.MoveError.{MoveError}
use Rattle.layout_moves.specs.declared.MoveError.TheVariants.{RefusedAt}

module _ (file : List ℕ) {r : Result ℕ MoveError} {old now : List ℕ} (m : UnpackLayout file r old now)
    (enough : text_sizes.longest ≤ length old) where
  -- the packed form of a layout within the limits is written as its text
  pub unpacked-when : (l : Layout) → Within l → file ≡ packed_of l → Whole (text_of l) r old now
  unpacked-when l w e = whole m enough (text_of l) (ap unpack e ∙ unpack-packed l w) (text-long l w)

  -- refusal 18 with the offset k is the answer if and only if the fault lies at k
  pub fault-when : (k : ℕ) → (r ≡ Err (RefusedAt refusal k)) ↔ FaultAt file k
  unfolding unpack
  fault-when k = (
    λ e. (fault-told file k).0 (to-fault (reads_packed file) (sym (m.answer-is ∙ rw (le-ltb _ _ enough)) ∙ e)),
    λ f. m.answer-is ∙ rw (le-ltb _ _ enough, (fault-told file k).1 f),
  )

  -- it is the answer, with some offset, if and only if no layout within the limits has these bytes
  pub fault-no-layout : (k : ℕ) → r ≡ Err (RefusedAt refusal k) → (l : Layout) → Within l → file ≡ packed_of l → ⊥
  fault-no-layout k e = refused-no-layout file k ((fault-told file k).1 ((fault-when k).0 e))

  pub no-layout-fault : ((l : Layout) → Within l → file ≡ packed_of l → ⊥) → (k : ℕ) × (r ≡ Err (RefusedAt refusal k))
  no-layout-fault none =
      let f = no-layout-refused file none in
      (f.at, (fault-when f.at).1 ((fault-told file f.at).0 f.is))

  -- there is no other answer: the file is unpacked within the room, or refused with 18
  pub unpack-answers : ((n : ℕ) × (r ≡ Ok n) × (n ≤ length old)) ⊎ ((k : ℕ) × (r ≡ Err (RefusedAt refusal k)))
  unfolding unpack
  unpack-answers = go (reads_packed file) refl (m.answer-is ∙ rw (le-ltb _ _ enough))
    where
      go : (u : Unpacked) → reads_packed file ≡ u → r ≡ answer_of (text_or u)
          → ((n : ℕ) × (r ≡ Ok n) × (n ≤ length old)) ⊎ ((k : ℕ) × (r ≡ Err (RefusedAt refusal k)))
      go (Unpacked.broken_at k) is e = inr (k, e)
      go (Unpacked.layout l) is e = inl (length (text_of l), e, omega (arith, text-long l (read-is-packed file l is).1))
