-- The word that a call in C returns for a refusal, as the header lays it out: bits 0 to 15 are 256 plus the refusal's number,
-- bits 16 to 23 the item, 24 to 31 the owner, 32 to 63 the index.
use Rattle.std.specs.Prelude.{ℕ, ◌+◌, ◌*◌, ◌%◌}
use Rattle.checks.specs.declared.fault.Fault.{Fault}
use Rattle.checks.specs.FaultNumbers.{item}
use Rattle.checks.specs.Refusal.{numbers_below}

-- where each part begins, and how many of it there are
abbrev pub item_unit : ℕ
item_unit = 65_536

abbrev pub owner_unit : ℕ
owner_unit = 16_777_216

abbrev pub index_unit : ℕ
index_unit = 4_294_967_296

abbrev pub item_width : ℕ
item_width = 256

abbrev pub owners : ℕ
owners = 256

abbrev pub indices : ℕ
indices = 4_294_967_296

-- from the parts; each is small enough for its bits in every call (Laws/RefusalNumbers.antt), and is cut to them elsewhere
abbrev pub word_of : ℕ → ℕ → ℕ → ℕ → ℕ
word_of number owner index item =
    numbers_below + number % numbers_below + item * item_unit + (owner % owners) * owner_unit + (index % indices) * index_unit

unfoldable pub word : Fault → ℕ
word f = word_of f.number f.place.owner f.place.index (item f.place.item)
