-- The products that the kernel divides, over whole numbers. v is the way from v1 to v2, u the way from u1 to u2 and w the way
-- from u1 to v1. Then across is v × u, v's place is (u × w) / across, and u's place is (v × w) / across. A point of both straight
-- lines lies there, so if across is 0 both products are 0.
use Rattle.std.specs.Prelude.{ℤ, ◌+ℤ◌, ◌-ℤ◌, ◌*ℤ◌}
use Rattle.grid.specs.Promise.{Spot}

-- the way from a to b
abbrev pub way : Spot → Spot → Spot
way a b = record { x = b.x -ℤ a.x; y = b.y -ℤ a.y }

abbrev pub cross : Spot → Spot → ℤ
cross p q = p.x *ℤ q.y -ℤ p.y *ℤ q.x

abbrev pub across : Spot → Spot → Spot → Spot → ℤ
across v1 v2 u1 u2 = cross (way v1 v2) (way u1 u2)

abbrev pub first : Spot → Spot → Spot → Spot → ℤ
first v1 v2 u1 u2 = cross (way u1 u2) (way u1 v1)

abbrev pub second : Spot → Spot → Spot → Spot → ℤ
second v1 v2 u1 u2 = cross (way v1 v2) (way u1 v1)
