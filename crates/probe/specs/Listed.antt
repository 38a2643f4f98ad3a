-- What the call on the program's input answers: how many bytes the answer has, or 0 if there is too little room; and what the
-- slice holds then.
use Rattle.std.specs.Prelude.{ℕ, ◌≡◌, cond, List, ltb, length, Result, Ok, Err}
use Rattle.std.proofs.lemmas.List.Edits.{sets}
use Rattle.answer_lines.specs.declared.WriteError.{WriteError}
use Rattle.layout_listing.specs.Answer.{answer_to, room}

abbrev pub bytes_of : Result ℕ WriteError → ℕ
bytes_of (Ok n) = n
bytes_of (Err e) = 0

pub record ListTold (input : List ℕ) (bytes : ℕ) (old now : List ℕ) : Type 0 where
  pub bytes-is : bytes ≡ cond (ltb (length old) room) 0 (length (answer_to input))
  pub holds : now ≡ cond (ltb (length old) room) old (sets old 0 (answer_to input))
