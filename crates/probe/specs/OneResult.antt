-- The promise of a call that writes numbers allows one result only: the returned count, and what the slice holds afterwards. So
-- does that of a call on layouts: the word, and what each slice holds.
use Rattle.std.specs.Prelude.{ℕ, ◌≡◌, List, Float}
use Rattle.std.proofs.Common.{sym, ◌∙◌}
use Rattle.layout_moves.specs.Moves as layouts
use Rattle.probe.specs.Numbers.{Given}
use Rattle.probe.specs.Told.{MoveTold, ReadTold}
use Rattle.probe.specs.Listed.{ListTold}

pub given-one-result : {numbers old a b : List Float} {r s : ℕ} → Given numbers r old a → Given numbers s old b
    → (r ≡ s) × (a ≡ b)
given-one-result p q = (p.returned-is ∙ sym q.returned-is, p.holds ∙ sym q.holds)

pub move-told-one-result : {room : ℕ} {given : layouts.Given} {v w : ℕ} {out a b told c d : List ℕ}
    → MoveTold room given v out a told c → MoveTold room given w out b told d → (v ≡ w) × (a ≡ b) × (c ≡ d)
move-told-one-result p q =
    (p.word-is ∙ sym q.word-is, p.out-holds ∙ sym q.out-holds, p.told-holds ∙ sym q.told-holds)

pub read-told-one-result : {bytes : List ℕ} {v w : ℕ} {first a b second c d : List Float} {told e f : List ℕ}
    → ReadTold bytes v first a second c told e → ReadTold bytes w first b second d told f
    → (v ≡ w) × (a ≡ b) × (c ≡ d) × (e ≡ f)
read-told-one-result p q = (
  p.word-is ∙ sym q.word-is,
  p.first_holds ∙ sym q.first_holds,
  p.second_holds ∙ sym q.second_holds,
  p.told-holds ∙ sym q.told-holds,
)

pub list-told-one-result : {input : List ℕ} {n m : ℕ} {old a b : List ℕ} → ListTold input n old a → ListTold input m old b
    → (n ≡ m) × (a ≡ b)
list-told-one-result p q = (p.bytes-is ∙ sym q.bytes-is, p.holds ∙ sym q.holds)
