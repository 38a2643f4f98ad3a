-- The programs read one byte more than a file may have, and no more. What they answer to that is the answer to the whole input,
-- of whatever length it is, and so is the offset that they tell.
use Rattle.std.specs.Prelude.{ℕ, suc, ◌≡◌, List, take}
use Rattle.std.proofs.Common.{ap}
use Rattle.layout_text.specs.Form as text_form
use Rattle.layout_text.specs.Exactly as text_law
use Rattle.layout_packed.specs.Limits as packed_limits
use Rattle.layout_packed.specs.Lengths as packed_law
use Rattle.layout_moves.specs.Moves.{packed_or, text_or, pack, unpack}

pub pack-enough : (text : List ℕ) → pack (take (suc text_form.bytes) text) ≡ pack text
unfolding pack
pack-enough text = ap packed_or (text_law.read-enough text)

pub unpack-enough : (file : List ℕ) → unpack (take (suc packed_limits.packed_bytes) file) ≡ unpack file
unfolding unpack
unpack-enough file = ap text_or (packed_law.read-enough file)
