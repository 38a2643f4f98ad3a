-- The reader's promise allows one result only: for the same bytes and buffers, two answers that it allows are equal, and so are
-- the buffers afterwards. Then the promise in a caller's words.
use Rattle.std.specs.Prelude.{ℕ, ◌≡◌, ◌↔◌, false, List, length, Float, Result, Ok, Err}
use Rattle.std.proofs.Common.{sym, ap, ◌∙◌, arith}
use Rattle.std.proofs.lemmas.List.Edits.{sets}
use Rattle.layouts.specs.Layout.{Layout, Within}
use Rattle.layouts.specs.Numbers.{path_of}
use Rattle.layout_packed.specs.Packed.{packed_of}
use Rattle.layout_packed.specs.Fault.{FaultAt}
use Rattle.layout_packed.specs.Workings.Reader.{Unpacked, broken_at, layout, reads_packed}
use Rattle.layout_packed.specs.Read.{ReadPacked, refusal, roomless, answer_of}
use Rattle.layout_packed.specs.Exactly.{packed-reads, refused-no-layout, no-layout-refused}
use Rattle.layout_packed.specs.Offset.{fault-told}
use Rattle.layout_packed.specs.declared.Counts.{Counts}
use Rattle.layout_packed.specs.declared.UnpackError.{UnpackError}
use Rattle.layout_packed.specs.declared.UnpackError.TheVariants.{Refused}

pub read-one-result : {bytes : List ℕ} {r s : Result Counts UnpackError} {first a b second c d : List Float}
    → ReadPacked bytes r first a second c → ReadPacked bytes s first b second d → (r ≡ s) × (a ≡ b) × (c ≡ d)
read-one-result p q =
    (p.answer-is ∙ sym q.answer-is, p.first_holds ∙ sym q.first_holds, p.second_holds ∙ sym q.second_holds)

to-broken : (u : Unpacked) (k : ℕ) → answer_of u ≡ Err (Refused refusal k) → u ≡ broken_at k
to-broken (broken_at j) k e = let same : j ≡ k = cc in ap broken_at same
to-broken (layout l) k e = let z : ◌≡◌ {A = ℕ} 0 1 = cc in absurd (omega arith)

-- ---- in a caller's words, if both buffers have room

module _ {bytes : List ℕ} {r : Result Counts UnpackError} {first first' second second' : List Float}
    (read : ReadPacked bytes r first first' second second') (room : roomless first second ≡ false) where
  -- the packed form of a layout within the limits is read as its counts and its paths
  pub read-when : (l : Layout) → Within l → bytes ≡ packed_of l
      → (r ≡ Ok (record { first = length l.first; second = length l.second }))
      × (first' ≡ sets first 0 (path_of l.first))
      × (second' ≡ sets second 0 (path_of l.second))
  read-when l w e =
      let is : reads_packed bytes ≡ layout l = ap reads_packed e ∙ packed-reads l w in
      (read.answer-is ∙ rw (room, is), read.first_holds ∙ rw (room, is), read.second_holds ∙ rw (room, is))

  is-broken : (k : ℕ) → r ≡ Err (Refused refusal k) → reads_packed bytes ≡ broken_at k
  is-broken k e = to-broken (reads_packed bytes) k (sym (read.answer-is ∙ rw room) ∙ e)

  -- refusal 18 is the answer if and only if no layout within the limits has these bytes
  pub refused-no-packed : (k : ℕ) → r ≡ Err (Refused refusal k) → (l : Layout) → Within l → bytes ≡ packed_of l → ⊥
  refused-no-packed k e = refused-no-layout bytes k (is-broken k e)

  pub no-packed-refused : ((l : Layout) → Within l → bytes ≡ packed_of l → ⊥) → (k : ℕ) × (r ≡ Err (Refused refusal k))
  no-packed-refused none =
      let at = no-layout-refused bytes none in
      (at.at, read.answer-is ∙ rw (room, at.is))

  -- and its offset is K if and only if the fault lies at K; then nothing is written
  pub refused-when : (k : ℕ) → (r ≡ Err (Refused refusal k)) ↔ FaultAt bytes k
  refused-when k = (
    λ e. (fault-told bytes k).0 (is-broken k e),
    λ f.
        read.answer-is ∙ rw (room, (fault-told bytes k).1 f),
  )

  pub refused-writes-nothing : (k : ℕ) → r ≡ Err (Refused refusal k) → (first' ≡ first) × (second' ≡ second)
  refused-writes-nothing k e =
      let is = is-broken k e in
      (read.first_holds ∙ rw (room, is), read.second_holds ∙ rw (room, is))
