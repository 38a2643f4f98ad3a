-- `listing_outcomes::page::page` meets its contract: it is `page_in`, and the numbers that it lends are enough.
use mathlib.Core.Path.{◌≡◌}
use Prim.Native.Nat.{ℕ, ◌+◌, ◌*◌}
use native.Mathlib.Omega.{arith}
use borrow.Author.Rules.{rules}
use lib.Ieee.{Float, binary64, of_bits}
use lib.ListN.{length, replicate, length-replicate}
use Rattle.paths.specs.Path.{most_vertices}
use Rattle.listing_pairs.specs.Workings.Keeping.{numbers_kept}
use Rattle.listing_pairs.specs.Workings.Tracks.{most_groups}
use Rattle.listing_outcomes.proofs.page.page.Statement.{statement}
use Rattle.listing_outcomes.proofs.page.page.Tie as tie

-- the numbers, at first
abbrev all : ℕ
all = most_vertices * numbers_kept + most_groups

long : length (let z : Float = of_bits binary64 0 in replicate all z) ≡ all
long = let z : Float = of_bits binary64 0 in length-replicate all z

page-in-requires : tie.Need-page_in-requires
page-in-requires c κs =
    let p = c.requires in (p.0, (p.1.0, omega (arith, long, p.1.1)))

pub page_spec : {M : Type 1} → statement M
page_spec =
    tie.close
    (tie.spec
    (λ c. search rules) page-in-requires (λ c. search rules) (λ c. search rules)
    (λ c. c.page_in.ensures.0))
