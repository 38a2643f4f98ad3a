-- The cut point of an arc whose numbers are in range is finite: each coordinate is at most 2^25 in magnitude, since no rounding
-- crosses a power of two. The numbers may be any, not only those of the format.
use Rattle.std.specs.Prelude.{◌≡◌, refl, ℕ, suc, ◌+◌, ◌*◌, ◌^◌, ◌≤◌, ◌<◌, Bool, true, false, T, Float}
use Rattle.std.proofs.Common.{ap, mul-pos, mul-le-mul, mul-le-mul_right, le_trans, le_of_eq, zero-lt-suc, arith, lit≤, pow-add, pow_pos, pow_mono}
use Rattle.std.proofs.Math.Nat.{pow-succ'}
use Rattle.std.specs.Float.{nan, inf, fin, Format, binary64}
use Rattle.std.specs.Float.Ieee.{emax, low, up, down, of_bits, add, sub, mul, div}
use Rattle.std.specs.Float.Ieee.Exact.{HasValue}
use Rattle.std.specs.Float.Ieee.Fits.{down_pos}
use Rattle.std.specs.Float.Ieee.Scale.{finite}
use Rattle.float_laws.specs.Signed.{Diff, ups, downs, own-diff, diff-finite}
use Rattle.float_laws.specs.Order.{le-diff}
use Rattle.float_laws.specs.Chains.{written-diff}
use Rattle.float_laws.specs.Rounded.{Rounded, add-rounded, sub-rounded, mul-rounded, div-rounded}
use Rattle.float_laws.specs.Roundings.{rounded-within}
use Rattle.floats.specs.Ops.{f2}
use Rattle.floats.specs.F64
use Rattle.plane.specs.declared.pline_vertex.PlineVertex.{PlineVertex}
use Rattle.plane.specs.Vector2 as points
use Rattle.plane.specs.PlineVertex as vertices
use Rattle.checks.specs.Limit
use Rattle.checks.specs.Laws.Fine as fine
use Rattle.checks.specs.Laws.Chains.{PointFine}
use Rattle.checks.specs.Laws.Lengths.{coordinate-small}
use Rattle.float_laws.specs.Sizes.{Small}
use Rattle.cuts.specs.Cut.{cut_point, cut_vertex}

-- x as a difference
in-diff : (k : ℕ) (x : Float) (a : Small k x) → Diff x (ups a.s a.size) (downs a.s a.size) a.over
in-diff k x a = own-diff x a.s a.size a.over a.value

small-finite : (k : ℕ) (x : Float) → Small k x → T (finite x)
small-finite k x a = diff-finite x _ _ a.over (in-diff k x a)

wider : (i j : ℕ) (x : Float) → i ≤ j → Small i x → Small j x
wider i j x l a = record {
  s = a.s;
  size = a.size;
  over = a.over;
  some = a.some;
  value = a.value;
  le = le_trans a.le (mul-le-mul_right a.over (pow_mono l));
}

-- ---- one rounding
rounded-small : (f : Format) (r : Float) (P N c K : ℕ) → Rounded f r P N c → 0 < c → P ≤ N + 2 ^ K * c → N ≤ P + 2 ^ K * c
    → K ≤ emax f → Small K r
rounded-small f r P N c K h C u l room =
    let L = 2 ^ low f in
    let power : 2 ^ (K + low f) ≡ 2 ^ K * L = pow-add 2 K (low f) in
    let w = rounded-within f r P N c (K + low f) h C (scale P N (2 ^ K) (2 ^ (K + low f)) L power u)
    (scale N P (2 ^ K) (2 ^ (K + low f)) L power l) (fits K (low f) (emax f) room) in
    record {
      s = w.s;
      size = w.count;
      over = L;
      some = pow_pos (low f);
      value = w.value;
      le = le_trans w.le (le_of_eq power);
    }
  where
    scale : (P N B K L : ℕ) → K ≡ B * L → P ≤ N + B * c → P * L ≤ N * L + K * c
    scale P N B K L e l = let w = ap (λ (z : ℕ). z * c) e in omega (arith, mul-le-mul_right L l, w)

    fits : (K l e : ℕ) → K ≤ e → K + l < l + suc e
    fits K l e h = omega arith

module _ (f : Format) (x y : Float) where
  -- in whole numbers: X / c and Y / d with signs
  sums : (s t : Bool) (X Y c d B K : ℕ) → K ≡ 2 * B → X ≤ B * c → Y ≤ B * d
      → (ups s X * d + ups t Y * c ≤ downs s X * d + downs t Y * c + K * (c * d))
      × (downs s X * d + downs t Y * c ≤ ups s X * d + ups t Y * c + K * (c * d))
  sums s t X Y c d B K e p q = go s t (mul-le-mul_right d p) (mul-le-mul_right c q) (ap (λ (z : ℕ). z * (c * d)) e)
    where
      go : (s t : Bool) → X * d ≤ B * c * d → Y * c ≤ B * d * c → K * (c * d) ≡ 2 * B * (c * d)
          → (ups s X * d + ups t Y * c ≤ downs s X * d + downs t Y * c + K * (c * d))
          × (downs s X * d + downs t Y * c ≤ ups s X * d + ups t Y * c + K * (c * d))
      go true true x y z = (omega arith, omega arith)
      go true false x y z = (omega arith, omega arith)
      go false true x y z = (omega arith, omega arith)
      go false false x y z = (omega arith, omega arith)

  add_small : (k : ℕ) → Small k x → Small k y → suc k ≤ emax f → Small (suc k) (add f x y)
  add_small k a b room =
      let m = sums a.s b.s a.size b.size a.over b.over (2 ^ k) (2 ^ suc k) (pow-succ' 2 k) a.le b.le in
      rounded-small f (add f x y) _ _ (a.over * b.over) (suc k)
      (add-rounded f x y _ _ _ _ a.over b.over a.some b.some (in-diff k x a) (in-diff k y b))
      (mul-pos a.some b.some) m.0 m.1 room

  sub_small : (k : ℕ) → Small k x → Small k y → suc k ≤ emax f → Small (suc k) (sub f x y)
  sub_small k a b room =
      let m = turned a.s b.s a.size b.size a.over b.over a.le b.le in
      rounded-small f (sub f x y) _ _ (a.over * b.over) (suc k)
      (sub-rounded f x y _ _ _ _ a.over b.over a.some b.some (in-diff k x a) (in-diff k y b))
      (mul-pos a.some b.some) m.0 m.1 room
    where
      turned : (s t : Bool) (X Y c d : ℕ) → X ≤ 2 ^ k * c → Y ≤ 2 ^ k * d
          → (ups s X * d + downs t Y * c ≤ downs s X * d + ups t Y * c + 2 ^ suc k * (c * d))
          × (downs s X * d + ups t Y * c ≤ ups s X * d + downs t Y * c + 2 ^ suc k * (c * d))
      turned s true X Y c d p q = sums s false X Y c d (2 ^ k) (2 ^ suc k) (pow-succ' 2 k) p q
      turned s false X Y c d p q = sums s true X Y c d (2 ^ k) (2 ^ suc k) (pow-succ' 2 k) p q

  mul_small : (i j : ℕ) → Small i x → Small j y → i + j ≤ emax f → Small (i + j) (mul f x y)
  mul_small i j a b room =
      let m = products a.s b.s a.size b.size a.over b.over (2 ^ i) (2 ^ j) (2 ^ (i + j)) (pow-add 2 i j)
      (mul-le-mul a.le b.le) in
      rounded-small f (mul f x y) _ _ (a.over * b.over) (i + j)
      (mul-rounded f x y _ _ _ _ a.over b.over a.some b.some (in-diff i x a) (in-diff j y b))
      (mul-pos a.some b.some) m.0 m.1 room
    where
      products : (s t : Bool) (X Y c d A B K : ℕ) → K ≡ A * B → X * Y ≤ A * c * (B * d)
          → (ups s X * ups t Y + downs s X * downs t Y ≤ ups s X * downs t Y + downs s X * ups t Y + K * (c * d))
          × (ups s X * downs t Y + downs s X * ups t Y ≤ ups s X * ups t Y + downs s X * downs t Y + K * (c * d))
      products s t X Y c d A B K e l = go s t (ap (λ (z : ℕ). z * (c * d)) e)
        where
          go : (s t : Bool) → K * (c * d) ≡ A * B * (c * d)
              → (ups s X * ups t Y + downs s X * downs t Y ≤ ups s X * downs t Y + downs s X * ups t Y + K * (c * d))
              × (ups s X * downs t Y + downs s X * ups t Y ≤ ups s X * ups t Y + downs s X * downs t Y + K * (c * d))
          go true true z = (omega arith, omega arith)
          go true false z = (omega arith, omega arith)
          go false true z = (omega arith, omega arith)
          go false false z = (omega arith, omega arith)

two_is : HasValue f2 false 2 1
unfolding of_bits
two_is = (refl, refl)

half-small : (f : Format) (x : Float) (k : ℕ) → Small (suc k) x → k ≤ emax f → Small k (div f x f2)
half-small f x k a room =
    let one = zero-lt-suc 0 in
    let m = halves a.s a.size a.over (2 ^ k) (2 ^ suc k) (pow-succ' 2 k) a.le in
    rounded-small f (div f x f2) _ _ (2 * a.over) k
    (div-rounded f x f2 _ _ a.over false 2 1 a.some one (zero-lt-suc 1) (in-diff (suc k) x a) two_is)
    (mul-pos (zero-lt-suc 1) a.some) m.0 m.1 room
  where
    halves : (s : Bool) (X c B K : ℕ) → K ≡ 2 * B → X ≤ K * c
        → (ups s X * 1 ≤ downs s X * 1 + B * (2 * c)) × (downs s X * 1 ≤ ups s X * 1 + B * (2 * c))
    halves s X c B K e l = go s (ap (λ (z : ℕ). z * c) e)
      where
        go : (s : Bool) → K * c ≡ 2 * B * c
            → (ups s X * 1 ≤ downs s X * 1 + B * (2 * c)) × (downs s X * 1 ≤ ups s X * 1 + B * (2 * c))
        go true z = (omega arith, omega arith)
        go false z = (omega arith, omega arith)

-- ---- a bulge up to 16
sixteen-is : Diff Limit.large_bulge 16 0 1
unfolding of_bits
sixteen-is = omega arith

bulge-small : (x : Float) → fine.Within Limit.large_bulge x → Small 4 x
unfolding F64.abs
bulge-small nan w = absurd w.number
bulge-small (inf s) w = absurd w.number
bulge-small (fin s m e) w =
    let one = zero-lt-suc 0 in
    let is = written-diff false m e in
    let l = (le-diff (fin false m e) Limit.large_bulge _ _ _ 16 0 1 (down_pos e) one is sixteen-is).0 w.small in
    record { s = s; size = m * up e; over = down e; some = down_pos e; value = (refl, refl); le = plain (m * up e) (down e) l }
  where
    plain : (M c : ℕ) → M * 1 + 0 * c ≤ 16 * c + 0 * 1 → M ≤ 2 ^ 4 * c
    plain M c h = omega arith

-- ---- the two coordinates
module _ (f : Format) (room : 25 ≤ emax f) (b p q r s : Float) (B : Small 4 b) (P : Small 20 p) (Q : Small 20 q) (R : Small 20 r)
    (S : Small 20 s) where
  enough : (k : ℕ) → k ≤ 25 → k ≤ emax f
  enough k l = omega (arith, l, room)

  -- the middle, and the step from it
  middle : Small 20 (div f (add f p q) f2)
  middle = half-small f (add f p q) 20 (add_small f p q 20 P Q (enough 21 (lit≤ tt))) (enough 20 (lit≤ tt))

  step : Small 24 (div f (mul f b (sub f r s)) f2)
  step =
      half-small f (mul f b (sub f r s)) 24
      (mul_small f b (sub f r s) 4 21 B (sub_small f r s 20 R S (enough 21 (lit≤ tt))) (enough 25 (lit≤ tt)))
      (enough 24 (lit≤ tt))

  added : Small 25 (add f (div f (add f p q) f2) (div f (mul f b (sub f r s)) f2))
  added = add_small f _ _ 24 (wider 20 24 _ (lit≤ tt) middle) step (enough 25 (lit≤ tt))

  taken : Small 25 (sub f (div f (add f p q) f2) (div f (mul f b (sub f r s)) f2))
  taken = sub_small f _ _ 24 (wider 20 24 _ (lit≤ tt) middle) step (enough 25 (lit≤ tt))

pub record PointFinite (v1 v2 : PlineVertex) : Type 0 where
  pub x : T (finite (cut_vertex v1 v2).x)
  pub y : T (finite (cut_vertex v1 v2).y)

pub cut-finite : (v1 v2 : PlineVertex) → PointFine v1.x v1.y → fine.Within Limit.large_bulge v1.bulge
    → PointFine v2.x v2.y → PointFinite v1 v2
unfolding cut_vertex cut_point points.new vertices.new
cut-finite v1 v2 p w q =
    let b = bulge-small v1.bulge w in
    let x1 = coordinate-small v1.x p.at_x in
    let y1 = coordinate-small v1.y p.at_y in
    let x2 = coordinate-small v2.x q.at_x in
    let y2 = coordinate-small v2.y q.at_y in
    record {
      x = small-finite 25 _ (added binary64 (lit≤ tt) _ _ _ _ _ b x1 x2 y2 y1);
      y = small-finite 25 _ (taken binary64 (lit≤ tt) _ _ _ _ _ b y1 y2 x2 x1);
    }
