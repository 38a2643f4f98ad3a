-- What the answer of a move says of what it gives.
use Rattle.std.specs.Prelude.{ℕ, ◌<◌, ◌≡◌, refl, Bool, true, false, cond, List, T, ltb, length, Result, Ok, Err}
use Rattle.std.proofs.Common.{ap, arith, ltb→lt}
use Rattle.layout_text.specs.Workings.Reader.{Taken, broken}
use Rattle.layout_packed.specs.Workings.Reader.{Unpacked, broken_at}
use Rattle.layout_moves.specs.Moves.{Given, bytes, refused, refused_at, packed_or, text_or, answer_of, held_of}
use Rattle.layout_moves.specs.declared.MoveError.{MoveError}
use Rattle.layout_moves.specs.declared.MoveError.TheVariants.{Refused, RefusedAt, NoRoom}

pub to-broken : (t : Taken) {n : ℕ} → answer_of (packed_or t) ≡ Err (Refused n) → t ≡ broken
to-broken Taken.broken e = refl
to-broken (Taken.layout l) e = let z : ◌≡◌ {A = ℕ} 0 1 = cc in absurd (omega arith)

pub to-fault : (u : Unpacked) {n k : ℕ} → answer_of (text_or u) ≡ Err (RefusedAt n k) → u ≡ broken_at k
to-fault (Unpacked.broken_at j) {n} {k} e = let same : j ≡ k = cc in ap broken_at same
to-fault (Unpacked.layout l) e = let z : ◌≡◌ {A = ℕ} 0 1 = cc in absurd (omega arith)

pub to-short : (long room : ℕ) (g : Given) → cond (ltb long room) (Err NoRoom) (answer_of g) ≡ Err NoRoom → long < room
to-short long room g = go (ltb long room) (ltb→lt long room) g
  where
    go : (short : Bool) → (T short → long < room) → (g : Given) → cond short (Err NoRoom) (answer_of g) ≡ Err NoRoom
        → long < room
    go true h g e = h tt
    go false h (bytes b) e = let z : ◌≡◌ {A = ℕ} 0 1 = cc in absurd (omega arith)
    go false h (refused n) e = let z : ◌≡◌ {A = ℕ} 0 1 = cc in absurd (omega arith)
    go false h (refused_at n k) e = let z : ◌≡◌ {A = ℕ} 0 1 = cc in absurd (omega arith)

pub to-bytes : (short : Bool) (g : Given) {n : ℕ} → cond short (Err NoRoom) (answer_of g) ≡ Ok n
    → (b : List ℕ) × (g ≡ bytes b) × (length b ≡ n)
to-bytes true g e = let z : ◌≡◌ {A = ℕ} 0 1 = cc in absurd (omega arith)
to-bytes false (bytes b) e = (b, refl, cc)
to-bytes false (refused n) e = let z : ◌≡◌ {A = ℕ} 0 1 = cc in absurd (omega arith)
to-bytes false (refused_at n k) e = let z : ◌≡◌ {A = ℕ} 0 1 = cc in absurd (omega arith)

pub unwritten : (short : Bool) (g : Given) {r : Result ℕ MoveError} {old now : List ℕ} → r ≡ cond short (Err NoRoom) (answer_of g)
    → now ≡ cond short old (held_of g old) → ((n : ℕ) → r ≡ Ok n → ⊥) → now ≡ old
unwritten true g e h none = h
unwritten false (bytes b) e h none = absurd (none (length b) e)
unwritten false (refused n) e h none = h
unwritten false (refused_at n k) e h none = h
