-- The length of a chord is a number wherever it is checked: the coordinates of both ends have passed their own checks before. So
-- refusal 5 never depends on a NaN, and a chord that passes is at least 2^-40. Chords.antt of `paths` says the same for a path.
use Rattle.checks.specs.Checked.{Checked}
use Rattle.std.specs.Prelude.{◌≡◌, refl, ◌↔◌, true, false, ◌||◌, List, [], ◌∷◌, ◌++◌, ℕ, ◌+◌, ◌*◌, ◌^◌, ◌≤◌, T, Float, Ok}
use Rattle.std.proofs.Common.{sym, subst, le_trans, le_of_eq, zero-lt-suc, arith, lit≤, pow-add, pow_pos}
use Rattle.std.proofs.Math.Logic.Iff
use Rattle.std.specs.Float.{binary64}
use Rattle.std.specs.Float.Ieee.{low, of_bits, is_nan}
use Rattle.std.specs.Float.Ieee.Bits.{is_true}
use Rattle.std.specs.Float.Ieee.Exact.{HasValue}
use Rattle.std.specs.Float.Ieee.Order.{le_of_values}
use Rattle.float_laws.specs.Signed.{own-diff, diff-finite}
use Rattle.floats.specs.Ops.{◌≼◌, f0}
use Rattle.floats.specs.Laws.Sqrt.{sqrt-is}
use Rattle.plane.specs.declared.pline_vertex.PlineVertex.{PlineVertex}
use Rattle.plane.specs.PlineVertex.{pos, bulge_is_zero}
use Rattle.plane.specs.Vector2 as vector2
use Rattle.checks.specs.declared.fault.Item.TheVariants.{Chord}
use Rattle.checks.specs.declared.fault.Place.{Place}
use Rattle.checks.specs.Number.{is_infinite}
use Rattle.checks.specs.Fault.{at}
use Rattle.checks.specs.Each
use Rattle.checks.specs.Arc.{chord_length, arc_chord}
use Rattle.checks.specs.Limit
use Rattle.checks.specs.Lists.{point_checks, vertex_checks}
use Rattle.checks.specs.Calls.{pline_seg_numbers, pline_seg_checks}
use Rattle.checks.specs.First.{first}
use Rattle.checks.specs.FirstFault.{AllFine, first_fine}
use Rattle.checks.specs.Laws.Fine.{of_number, neither, coordinate-fine, chord-fine}
use Rattle.checks.specs.Laws.Later.{then-fine, alone-fine, unless-fine}
use Rattle.checks.specs.Laws.Chains.{PointFine, append-fine, point-listed, vertex-listed}
use Rattle.checks.specs.Laws.Lengths.{Unsigned, way, coordinate-small}

-- 2^22: the most that a chord can be
abbrev pub chord_most : Float
chord_most = of_bits binary64 0x4150_0000_0000_0000

-- c is neither a NaN nor an infinity, not below zero, and at most 2^22
pub record Length (c : Float) : Type 0 where
  pub number : (is_nan c || is_infinite c) ≡ false
  pub least : (f0 ≼ c) ≡ true
  pub most : (c ≼ chord_most) ≡ true

-- if the segment from a to b is an arc, its chord is such a length, and at least 2^-40
pub record LongIfArc (a b : PlineVertex) : Type 0 where
  pub chord : bulge_is_zero a ≡ false → Length (chord_length a b)
  pub long : bulge_is_zero a ≡ false → (Limit.chord_least ≼ chord_length a b) ≡ true

-- ---- the argument: Laws/Lengths bounds the sizes, so the root is finite and has no sign
zero-value : HasValue f0 false 0 1
unfolding of_bits
zero-value = (refl, refl)

most-value : HasValue chord_most false (2 ^ 22) 1
unfolding of_bits
most-value = (refl, refl)

of-unsigned : (c : Float) → Unsigned binary64 (22 + low binary64) c → Length c
of-unsigned c u =
    let L = 2 ^ low binary64 in
    let P = pow_pos (low binary64) in
    let one = zero-lt-suc 0 in
    record {
      number = of_number c (diff-finite c _ _ L (own-diff c false u.count L u.value));
      least = is_true _ (le_of_values f0 c 0 1 u.count L one P zero-value u.value (none L u.count));
      most = is_true _ (le_of_values c chord_most u.count L (2 ^ 22) 1 P one u.value most-value
          (over u.count (2 ^ 22) L (le_trans u.le (le_of_eq (pow-add 2 22 (low binary64))))));
    }
  where
    none : (L n : ℕ) → 0 * L ≤ n * 1
    none L n = omega arith

    over : (n k L : ℕ) → n ≤ k * L → n * 1 ≤ k * L
    over n k L h = omega arith

pub of-points : (a b : PlineVertex) → PointFine a.x a.y → PointFine b.x b.y → Length (chord_length a b)
unfolding vector2.length vector2.sub pos
of-points a b p q =
    let w = way binary64 20 a.x a.y b.x b.y (coordinate-small a.x p.at_x) (coordinate-small a.y p.at_y)
    (coordinate-small b.x q.at_x) (coordinate-small b.y q.at_y) (lit≤ tt) in
    of-unsigned (chord_length a b)
    (subst (λ (c : Float). Unsigned binary64 (22 + low binary64) c) (sym (sqrt-is _)) w)

split : (cs ds : List Checked) → first (cs ++ ds) ≡ Ok tt → (first cs ≡ Ok tt) × (first ds ≡ Ok tt)
split cs ds e = (append-fine cs ds Iff.rfl Iff.rfl).0 e

-- ---- one segment

-- if its four coordinates passed their checks, at any places, its chord is a length
pub chord-is-length : (a b : PlineVertex) (p q r s : Place)
    → Each.coordinate a.x p ≡ Ok tt
    → Each.coordinate a.y q ≡ Ok tt
    → Each.coordinate b.x r ≡ Ok tt
    → Each.coordinate b.y s ≡ Ok tt
    → Length (chord_length a b)
chord-is-length a b p q r s ax ay bx by =
    of-points a b
    (record { at_x = (coordinate-fine a.x p).0 ax; at_y = (coordinate-fine a.y q).0 ay })
    (record { at_x = (coordinate-fine b.x r).0 bx; at_y = (coordinate-fine b.y s).0 by })

-- such a length passes its own check exactly if it is at least 2^-40, and the same holds for a segment
pub passes-when : (c : Float) (p : Place) → Length c → (Each.chord c p ≡ Ok tt) ↔ ((Limit.chord_least ≼ c) ≡ true)
passes-when c p h =
    let real = ((neither (is_nan c) (is_infinite c)).0 h.number).0 in
    (λ e. is_true _ ((chord-fine c p).0 e real), λ e. (chord-fine c p).1 (λ r. subst T (sym e) tt))

pub segment-passes-when : (a b : PlineVertex) (owner index : ℕ) → Length (chord_length a b)
    → (arc_chord a b owner index ≡ Ok tt) ↔ LongIfArc a b
unfolding arc_chord
segment-passes-when a b owner index h =
    let exact = unless-fine (bulge_is_zero a) (passes-when (chord_length a b) (at owner index Chord) h) in
    (λ e. record { chord = λ arc. h; long = exact.0 e }, λ f. exact.1 f.long)

-- ---- in the pair call

-- if every check before those of the chords is fine, both chords are lengths, of lines too
pub pair-chords : (v1 v2 u1 u2 : PlineVertex) (pos_equal_eps : Float) → AllFine (pline_seg_numbers v1 v2 u1 u2 pos_equal_eps)
    → Length (chord_length v1 v2) × Length (chord_length u1 u2)
pair-chords v1 v2 u1 u2 pos_equal_eps h =
    let e : List Checked = Each.epsilon pos_equal_eps ∷ [] in
    let v : List Checked = vertex_checks v1.x v1.y v1.bulge 0 0 in
    let w : List Checked = point_checks v2.x v2.y 0 1 in
    let u : List Checked = vertex_checks u1.x u1.y u1.bulge 1 0 in
    let z : List Checked = point_checks u2.x u2.y 1 1 in
    let at-u2 = split (e ++ v ++ w ++ u) z ((first_fine (e ++ v ++ w ++ u ++ z)).1 h) in
    let at-u1 = split (e ++ v ++ w) u at-u2.0 in
    let at-v2 = split (e ++ v) w at-u1.0 in
    let at-v1 = split e v at-v2.0 in (
      of-points v1 v2 ((vertex-listed _ _ 0 _ 0).0 at-v1.1).point ((point-listed _ _ 0 1).0 at-v2.1),
      of-points u1 u2 ((vertex-listed _ _ 1 _ 0).0 at-u1.1).point ((point-listed _ _ 1 1).0 at-u2.1),
    )

-- if every check is fine, each arc of the two has a chord of at least 2^-40
pub pair-long : (v1 v2 u1 u2 : PlineVertex) (pos_equal_eps : Float) → AllFine (pline_seg_checks v1 v2 u1 u2 pos_equal_eps)
    → LongIfArc v1 v2 × LongIfArc u1 u2
pair-long v1 v2 u1 u2 pos_equal_eps h =
    let numbers = pline_seg_numbers v1 v2 u1 u2 pos_equal_eps in
    let chords : List Checked = arc_chord v1 v2 0 0 ∷ arc_chord u1 u2 1 0 ∷ [] in
    let both = split numbers chords ((first_fine (numbers ++ chords)).1 h) in
    let n = pair-chords v1 v2 u1 u2 pos_equal_eps ((first_fine numbers).0 both.0) in
    (then-fine (segment-passes-when v1 v2 0 0 n.0) (alone-fine (segment-passes-when u1 u2 1 0 n.1))).0 both.1
