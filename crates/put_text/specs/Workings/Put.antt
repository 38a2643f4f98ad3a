-- Bytes put into a slice from a place on: what the slice holds afterwards, and the place after the bytes.
use Rattle.std.specs.Prelude.{ℕ, ◌+◌, ◌≤◌, ◌≡◌, List, length}
use Rattle.std.proofs.lemmas.List.Edits.{sets}

pub record Put (bytes old : List ℕ) (at : ℕ) (now : List ℕ) (next : ℕ) : Type 0 where
  pub holds : now ≡ sets old at bytes
  pub after : next ≡ at + length bytes

-- the same, and there are at most this many bytes
pub record PutIn (most : ℕ) (bytes old : List ℕ) (at : ℕ) (now : List ℕ) (next : ℕ) : Type 0 where
  pub is-put : Put bytes old at now next
  pub short : next ≤ at + most
