-- The promise of a move, in either direction: it allows one result only; bytes are written only if a length is answered; too
-- little room is told exactly if there is too little; and what is written is whole.
use Rattle.std.specs.Prelude.{ℕ, ◌+◌, ◌≤◌, ◌<◌, ◌≡◌, ◌↔◌, List, ◌++◌, ltb, length, drop, Result, Ok, Err}
use Rattle.std.proofs.Common.{sym, ◌∙◌, arith, lt-ltb, le-ltb}
use Rattle.std.proofs.lemmas.List.Edits.{sets-eq}
use Rattle.layout_moves.specs.Moves.{Given, bytes, Moves}
use Rattle.layout_moves.specs.Laws.Given.{to-short, unwritten}
use Rattle.layout_moves.specs.declared.MoveError.{MoveError}
use Rattle.layout_moves.specs.declared.MoveError.TheVariants.{NoRoom}

pub moves-one-result : {room : ℕ} {given : Given} {r s : Result ℕ MoveError} {old a b : List ℕ}
    → Moves room given r old a → Moves room given s old b → (r ≡ s) × (a ≡ b)
moves-one-result p q = (p.answer-is ∙ sym q.answer-is, p.holds ∙ sym q.holds)

-- bytes are written only if their count is answered
pub only-a-length-writes : {room : ℕ} {given : Given} {r : Result ℕ MoveError} {old now : List ℕ} → Moves room given r old now
    → ((n : ℕ) → r ≡ Ok n → ⊥) → now ≡ old
only-a-length-writes {room} {given} {old = old} m = unwritten (ltb (length old) room) given m.answer-is m.holds

-- too little room is told exactly if there is too little
pub no-room-when : {room : ℕ} {given : Given} {r : Result ℕ MoveError} {old now : List ℕ} → Moves room given r old now
    → (r ≡ Err NoRoom) ↔ (length old < room)
no-room-when {room} {given} {old = old} m = (
  λ e. to-short (length old) room given (sym m.answer-is ∙ e),
  λ h. m.answer-is ∙ rw (lt-ltb _ _ h),
)

-- ---- what is written is whole: all the bytes stand at the front of the slice, and what follows them is unchanged

pub record Whole (b : List ℕ) (r : Result ℕ MoveError) (old now : List ℕ) : Type 0 where
  pub answer-is : r ≡ Ok (length b)
  pub inside : length b ≤ length old
  pub holds : now ≡ b ++ drop (length b) old

pub whole : {room : ℕ} {given : Given} {r : Result ℕ MoveError} {old now : List ℕ} → Moves room given r old now → room ≤ length old
    → (b : List ℕ) → given ≡ bytes b → length b ≤ room → Whole b r old now
whole {old = old} m enough b e short =
    let zero : 0 + length b ≡ length b = omega arith in
    record {
      answer-is = m.answer-is ∙ rw (le-ltb _ _ enough, e);
      inside = omega arith;
      holds = m.holds ∙ rw (le-ltb _ _ enough, e) (rw zero at (sets-eq b old 0 (omega arith)));
    }
