-- How many bytes a number has, by its range.
use Rattle.std.specs.Prelude.{ℕ, eqb, ◌≤◌, length, ℤ}
use Rattle.std.proofs.Common.{arith}
use Rattle.layouts.specs.Limits as limit
use Rattle.layouts.specs.Layout.{magnitude, signed, whole_vertex, VertexWithin}
use Rattle.layouts.specs.declared.vertex.Corner.{Corner}
use Rattle.layouts.specs.Laws.Whole.{size-whole}
use Rattle.layout_packed.specs.Limits as written
use Rattle.layout_packed.specs.Groups.{groups_of, zigzag}
use Rattle.layout_packed.specs.Laws.Groups.{groups-long}
use Rattle.layout_packed.specs.Laws.Zigzag.{zigzag-most}

pub count_long : (n : ℕ) → n ≤ limit.vertices → length (groups_of n) ≤ written.count_bytes
count_long n h = groups-long 1 n (omega arith)

pub coordinate-long : (n : ℕ) → n ≤ written.coordinate → length (groups_of n) ≤ written.coordinate_bytes
coordinate-long n h = groups-long 3 n (omega arith)

pub bulge-long : (n : ℕ) → n ≤ written.bulge → length (groups_of n) ≤ written.bulge_bytes
bulge-long n h = groups-long 2 n (omega arith)

-- the same, of the coordinate or bulge for which it is written
pub coordinate-short : (z : ℤ) → magnitude z ≤ limit.coordinate → length (groups_of (zigzag z)) ≤ written.coordinate_bytes
coordinate-short z h = coordinate-long (zigzag z) (zigzag-most z limit.coordinate h)

pub bulge-short : (z : ℤ) → magnitude z ≤ limit.bulge → length (groups_of (zigzag z)) ≤ written.bulge_bytes
bulge-short z h = bulge-long (zigzag z) (zigzag-most z limit.bulge h)

-- the numbers of a vertex, given by sign and magnitude
pub record Sizes (v : Corner) : Type 0 where
  pub x-most : v.x.magnitude ≤ limit.coordinate
  pub y-most : v.y.magnitude ≤ limit.coordinate
  pub b-most : v.bulge.magnitude ≤ limit.bulge
  pub x-bytes : length (groups_of (zigzag (signed v.x))) ≤ written.coordinate_bytes
  pub y-bytes : length (groups_of (zigzag (signed v.y))) ≤ written.coordinate_bytes
  pub b-bytes : length (groups_of (zigzag (signed v.bulge))) ≤ written.bulge_bytes

pub sizes-of : (v : Corner) → VertexWithin (whole_vertex v) → Sizes v
sizes-of v w =
    record {
      x-most = omega (arith, size-whole (eqb v.x.minuses 1) v.x.magnitude, w.x-within);
      y-most = omega (arith, size-whole (eqb v.y.minuses 1) v.y.magnitude, w.y-within);
      b-most = omega (arith, size-whole (eqb v.bulge.minuses 1) v.bulge.magnitude, w.bulge-within);
      x-bytes = coordinate-short (signed v.x) w.x-within;
      y-bytes = coordinate-short (signed v.y) w.y-within;
      b-bytes = bulge-short (signed v.bulge) w.bulge-within;
    }
