-- The ends of the calls on layouts: there is no place for the two numbers, or the function's answer is told; and that of the call
-- on the program's input.
use Prim.Native.Nat.{ℕ, ◌≤◌, ◌<◌}
use mathlib.Core.Path.{◌≡◌, refl, ap, ◌∙◌}
use mathlib.Core.Bool.{Bool, true, false, cond}
use mathlib.Core.List.{List}
use borrow.Author.Tests.{lt-ltb, le-ltb}
use lib.Dec.{ltb}
use lib.ListN.{length, set}
use lib.Ieee.{Float}
use Rattle.std.specs.Prelude.{Result, Ok, Err}
use Rattle.layout_packed.specs.Read.{ReadPacked}
use Rattle.layout_packed.specs.declared.Counts.{Counts}
use Rattle.layout_packed.specs.declared.UnpackError.{UnpackError}
use Rattle.layout_moves.specs.Moves.{Given, Moves}
use Rattle.layout_moves.specs.declared.MoveError.{MoveError}
use Rattle.answer_lines.specs.declared.WriteError.{WriteError}
use Rattle.answer_lines.specs.declared.WriteError.TheVariants.{NoRows, NoRoom}
use Rattle.layout_listing.specs.Answer.{answer_to, room, AnswerTo}
use Rattle.probe.specs.Listed.{bytes_of, ListTold}
use Rattle.probe.specs.Told.{no_room, places, Telling, tells, of_moved, of_unpacking, word_of, told_of}
use Rattle.probe.specs.Told.{Told, MoveTold, ReadTold}

-- two numbers written to the front are those told
pub two-told : {t : Telling} {word a b : ℕ} (old : List ℕ) → t ≡ tells word a b → Told t word old (set (set old 0 a) 1 b)
two-told old e = rw e (record { word-is = refl; holds = refl })

module _ (room : ℕ) (given : Given) (out told : List ℕ) where
  pub untold : length told < places → MoveTold room given no_room out out told told
  untold h = record { word-is = rw (lt-ltb _ _ h); out-holds = rw (lt-ltb _ _ h); told-holds = rw (lt-ltb _ _ h) }

  pub moved_told : places ≤ length told → {r : Result ℕ MoveError} {word : ℕ} {out' told' : List ℕ} → Moves room given r out out'
      → Told (of_moved r) word told told'
      → MoveTold room given word out out' told told'
  moved_told h m t =
      record {
        word-is = rw (le-ltb _ _ h) (t.word-is ∙ ap (λ (r : Result ℕ MoveError). word_of (of_moved r)) m.answer-is);
        out-holds = rw (le-ltb _ _ h) m.holds;
        told-holds = rw (le-ltb _ _ h) (t.holds ∙ ap (λ (r : Result ℕ MoveError). told_of (of_moved r) told) m.answer-is);
      }

module _ (bytes : List ℕ) (first second : List Float) (told : List ℕ) where
  pub unread : length told < places → ReadTold bytes no_room first first second second told told
  unread h =
      record {
        word-is = rw (lt-ltb _ _ h);
        first_holds = rw (lt-ltb _ _ h);
        second_holds = rw (lt-ltb _ _ h);
        told-holds = rw (lt-ltb _ _ h);
      }

  pub read_told : places ≤ length told → {r : Result Counts UnpackError} {word : ℕ} {first' second' : List Float} {told' : List ℕ}
      → ReadPacked bytes r first first' second second' → Told (of_unpacking r) word told told'
      → ReadTold bytes word first first' second second' told told'
  read_told h m t =
      record {
        word-is = rw (le-ltb _ _ h) (t.word-is ∙ ap (λ (r : Result Counts UnpackError). word_of (of_unpacking r)) m.answer-is);
        first_holds = rw (le-ltb _ _ h) m.first_holds;
        second_holds = rw (le-ltb _ _ h) m.second_holds;
        told-holds = rw (le-ltb _ _ h) (t.holds ∙ ap (λ (r : Result Counts UnpackError). told_of (of_unpacking r) told) m.answer-is);
      }

-- what `list_layout` answers, as bytes
by-room : (b : Bool) (n : ℕ) → bytes_of (cond false (Err NoRows) (cond b (Err NoRoom) (Ok n))) ≡ cond b 0 n
by-room true n = refl
by-room false n = refl

pub listed-told : (input old : List ℕ) {r : Result ℕ WriteError} {n : ℕ} {now : List ℕ} → AnswerTo input r old now → n ≡ bytes_of r
    → ListTold input n old now
listed-told input old a e =
    record {
      bytes-is = e ∙ ap bytes_of a.answer-is ∙ by-room (ltb (length old) room) (length (answer_to input));
      holds = a.holds;
    }
