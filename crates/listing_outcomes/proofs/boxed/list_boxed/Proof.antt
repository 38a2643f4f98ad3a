-- `listing_outcomes::boxed::list_boxed` meets its contract: it is `boxed_in`, and the numbers that it lends are enough.
use mathlib.Core.Path.{◌≡◌}
use Prim.Native.Nat.{ℕ, ◌+◌, ◌*◌, ◌/◌}
use native.Mathlib.Omega.{arith}
use borrow.Author.Rules.{rules}
use lib.Ieee.{Float, binary64, of_bits}
use lib.ListN.{length, replicate, length-replicate}
use Rattle.paths.specs.Path.{most_vertices}
use Rattle.boxes.specs.Groups.{group_size}
use Rattle.boxes.specs.Index.{floats_a_box}
use Rattle.listing_pairs.specs.Workings.Keeping.{numbers_kept}
use Rattle.listing_pairs.specs.Workings.Tracks.{most_groups}
use Rattle.listing_outcomes.proofs.boxed.list_boxed.Statement.{statement}
use Rattle.listing_outcomes.proofs.boxed.list_boxed.Tie as tie

-- the numbers, at first
abbrev all : ℕ
all =
    most_vertices * numbers_kept + most_groups
    + floats_a_box * (most_vertices + most_vertices / group_size + most_vertices / group_size / group_size)

long : length (let z : Float = of_bits binary64 0 in replicate all z) ≡ all
long = let z : Float = of_bits binary64 0 in length-replicate all z

boxed-in-requires : tie.Need-boxed_in-requires
boxed-in-requires c κs =
    let p = c.requires in (p.0, (p.1.0, omega (arith, long, p.1.1)))

pub list_boxed_spec : {M : Type 1} → statement M
list_boxed_spec =
    tie.close
    (tie.spec
    (λ c. search rules) boxed-in-requires (λ c. search rules) (λ c. search rules) (λ c. search rules)
    (λ c. c.boxed_in.ensures.0))
