-- What a function says that writes a list into a lent slice: the slice holds the list from a place on, and the function answers
-- the place behind it.
use Rattle.std.specs.Prelude.{◌≡◌, List, ℕ, ◌+◌, length}
use Rattle.std.proofs.lemmas.List.Edits.{sets}

pub record Put {A : Type 0} (list old : List A) (at : ℕ) (now : List A) (next : ℕ) : Type 0 where
  pub contents : now ≡ sets old at list
  pub behind : next ≡ at + length list
