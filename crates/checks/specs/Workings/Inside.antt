-- Quick tests of numbers, by comparisons alone: |x| is at most the limit if x and -x are, for all floats; a NaN is at most
-- nothing. So a point, a vertex or a circle whose numbers are all inside adds no fault to a chain of checks.
use Rattle.std.specs.Prelude.{◌≡◌, refl, Bool, true, false, cond, not, ◌&&◌, ℕ, ◌+◌, ◌*◌, ◌≤◌, T, Float, Ok}
use Rattle.std.proofs.Common.{sym, arith}
use Rattle.std.specs.Float.{nan, inf, fin}
use Rattle.std.specs.Float.Ieee.{up, down, of_bits, neg}
use Rattle.std.specs.Float.Ieee.Fits.{down_pos, and_l, and_r}
use Rattle.std.specs.Float.Ieee.Scale.{finite}
use Rattle.float_laws.specs.Signed.{ups, downs}
use Rattle.float_laws.specs.Order.{le-diff}
use Rattle.float_laws.specs.Chains.{written-diff, between-finite}
use Rattle.floats.specs.Ops.{◌≼◌, ◌≈◌, f0}
use Rattle.floats.specs.F64
use Rattle.checks.specs.First.{first}
use Rattle.checks.specs.Limit
use Rattle.checks.specs.Number.{no_trace}
use Rattle.checks.specs.Lists.{point_checks, vertex_checks, traced_checks, circle_checks}
use Rattle.checks.specs.Laws.Chains.{PointFine, VertexFine, TracedFine, CircleFine}
use Rattle.checks.specs.Laws.Chains.{point-listed, vertex-listed, traced-listed, circle-listed}
use Rattle.checks.specs.Laws.Fine.{Within, Between}
use Rattle.checks.specs.Laws.Traces.{zero-is-trace}

abbrev pub inside : Float → Float → Bool
inside most x = (x ≼ most) && (neg most ≼ x)

abbrev pub between : Float → Float → Float → Bool
between least most x = (least ≼ x) && (x ≼ most)

abbrev pub point_inside : Float → Float → Bool
point_inside x y = inside Limit.coordinate x && inside Limit.coordinate y

abbrev pub vertex_inside : Float → Float → Float → Bool
vertex_inside x y bulge = point_inside x y && inside Limit.bulge bulge

abbrev pub traced_inside : Float → Float → Float → Float → Bool
traced_inside x y bulge trace =
    let inside = vertex_inside x y bulge in
    cond (trace ≈ f0) inside (inside && not (no_trace trace))

abbrev pub circle_inside : Float → Float → Float → Bool
circle_inside r x y = between Limit.radius_least Limit.radius_most r && (inside Limit.center x && inside Limit.center y)

-- |x| <= most, if x <= most and -most <= x
small : (x most : Float) → T (finite x) → T (finite most) → T (x ≼ most) → T (neg most ≼ x) → T (F64.abs x ≼ most)
unfolding F64.abs neg
small nan most f g h k = absurd f
small (inf s) most f g h k = absurd f
small (fin s m e) nan f g h k = absurd g
small (fin s m e) (inf t) f g h k = absurd g
small (fin s m e) (fin t n d) f g h k =
    let E = down_pos e in
    let D = down_pos d in
    (le-diff (fin false m e) (fin t n d) _ _ _ _ _ _ E D (written-diff false m e) (written-diff t n d)).1
    (sizes s t (m * up e) (down e) (n * up d) (down d)
    ((le-diff (fin s m e) (fin t n d) _ _ _ _ _ _ E D (written-diff s m e) (written-diff t n d)).0 h)
    ((le-diff (fin (not t) n d) (fin s m e) _ _ _ _ _ _ D E (written-diff (not t) n d) (written-diff s m e)).0 k))
  where
    sizes : (s t : Bool) (M c N d : ℕ)
        → ups s M * d + downs t N * c ≤ ups t N * c + downs s M * d
        → ups (not t) N * c + downs s M * d ≤ ups s M * d + downs (not t) N * c
        → M * d + downs t N * c ≤ ups t N * c + 0 * d
    sizes true true M c N d a b = omega arith
    sizes true false M c N d a b = omega arith
    sizes false true M c N d a b = omega arith
    sizes false false M c N d a b = omega arith

inside-within : (most x : Float) → T (finite most) → T (finite (neg most)) → T (inside most x) → Within most x
inside-within most x f g h =
    let below = and_l (x ≼ most) (neg most ≼ x) h in
    let above = and_r (x ≼ most) (neg most ≼ x) h in
    let number = between-finite (neg most) x most g f above below in
    record { number = number; small = small x most number f below above }

pub of-coordinate : (x : Float) → T (inside Limit.coordinate x) → Within Limit.coordinate x
unfolding of_bits neg
of-coordinate x h = inside-within Limit.coordinate x tt tt h

pub of-bulge : (x : Float) → T (inside Limit.bulge x) → Within Limit.bulge x
unfolding of_bits neg
of-bulge x h = inside-within Limit.bulge x tt tt h

pub of-large-bulge : (x : Float) → T (inside Limit.large_bulge x) → Within Limit.large_bulge x
unfolding of_bits neg
of-large-bulge x h = inside-within Limit.large_bulge x tt tt h

of-center : (x : Float) → T (inside Limit.center x) → Within Limit.center x
unfolding of_bits neg
of-center x h = inside-within Limit.center x tt tt h

of-radius : (r : Float) → T (between Limit.radius_least Limit.radius_most r) → Between Limit.radius_least Limit.radius_most r
unfolding of_bits
of-radius r h =
    let above = and_l (Limit.radius_least ≼ r) (r ≼ Limit.radius_most) h in
    let below = and_r (Limit.radius_least ≼ r) (r ≼ Limit.radius_most) h in
    record { number = between-finite Limit.radius_least r Limit.radius_most tt tt above below; above = above; below = below }

-- ---- a point
point-fine : (x y : Float) → T (point_inside x y) → PointFine x y
point-fine x y h = record {
  at_x = of-coordinate x (and_l (inside Limit.coordinate x) (inside Limit.coordinate y) h);
  at_y = of-coordinate y (and_r (inside Limit.coordinate x) (inside Limit.coordinate y) h);
}

pub point-passed : (x y : Float) (owner index : ℕ) → T (point_inside x y) → Ok tt ≡ first (point_checks x y owner index)
point-passed x y owner index h = sym ((point-listed x y owner index).1 (point-fine x y h))

-- ---- a vertex, and a vertex of a path
vertex-fine : (x y bulge : Float) → T (vertex_inside x y bulge) → VertexFine x y bulge
vertex-fine x y bulge h =
    record {
      point = point-fine x y (and_l (point_inside x y) (inside Limit.bulge bulge) h);
      bulge = of-bulge bulge (and_r (point_inside x y) (inside Limit.bulge bulge) h);
    }

pub vertex-passed : (x y bulge : Float) (owner index : ℕ) → T (vertex_inside x y bulge)
    → Ok tt ≡ first (vertex_checks x y bulge owner index)
vertex-passed x y bulge owner index h = sym ((vertex-listed x y owner bulge index).1 (vertex-fine x y bulge h))

pub all-passed : (x y bulge trace : Float) (owner index : ℕ) → T (traced_inside x y bulge trace)
    → first (traced_checks x y bulge trace owner index) ≡ Ok tt
all-passed x y bulge trace owner index h = (traced-listed x y owner bulge trace index).1 (go (trace ≈ f0) refl h)
  where
    denied : (b : Bool) → T (not b) → b ≡ false
    denied true h = absurd h
    denied false h = refl

    go : (zero : Bool) → (trace ≈ f0) ≡ zero
        → T (cond zero (vertex_inside x y bulge) (vertex_inside x y bulge && not (no_trace trace)))
        → TracedFine x y bulge trace
    go true e h = record { vertex = vertex-fine x y bulge h; trace = zero-is-trace trace e }
    go false e h =
        record {
          vertex = vertex-fine x y bulge (and_l (vertex_inside x y bulge) (not (no_trace trace)) h);
          trace = denied (no_trace trace) (and_r (vertex_inside x y bulge) (not (no_trace trace)) h);
        }

-- ---- a circle
circle-fine : (r x y : Float) → T (circle_inside r x y) → CircleFine r x y
circle-fine r x y h =
    let center = inside Limit.center x && inside Limit.center y in
    let at = and_r (between Limit.radius_least Limit.radius_most r) center h in
    record {
      radius = of-radius r (and_l (between Limit.radius_least Limit.radius_most r) center h);
      at_x = of-center x (and_l (inside Limit.center x) (inside Limit.center y) at);
      at_y = of-center y (and_r (inside Limit.center x) (inside Limit.center y) at);
    }

pub circle-passed : (r x y : Float) (owner : ℕ) → T (circle_inside r x y) → Ok tt ≡ first (circle_checks r x y owner)
circle-passed r x y owner h = sym ((circle-listed x y owner r).1 (circle-fine r x y h))
