-- An answer in numbers: whether it is a refusal; then the refusal's number and its place (owner, index, item), or which case it
-- is, counted in the order of the enum; and the values of the case, a point as x and y. SameAnswer.antt proves that two answers
-- with the same numbers are the same.
use Rattle.std.specs.Prelude.{Bool, true, false, List, [], ℕ, Float}
use Rattle.checks.specs.declared.fault.Fault.{Fault}
use Rattle.checks.specs.FaultNumbers.{item}

pub record AnswerNumbers : Type 0 where
  pub refused : Bool
  pub number : ℕ
  pub owner : ℕ
  pub index : ℕ
  pub item : ℕ
  pub values : List Float

-- the numbers of a refusal
abbrev pub of_fault : Fault → AnswerNumbers
of_fault f =
    record {
      refused = true;
      number = f.number;
      owner = f.place.owner;
      index = f.place.index;
      item = item f.place.item;
      values = [];
    }

-- the numbers of a case, which has no place
abbrev pub of_case : ℕ → List Float → AnswerNumbers
of_case n values = record { refused = false; number = n; owner = 0; index = 0; item = 0; values = values }
