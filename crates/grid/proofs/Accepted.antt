-- A pair of grid lines is never refused: every number that the pair call checks is fine, so it answers how the two meet.
use Rattle.checks.specs.Checked.{Checked}
use Rattle.std.specs.Prelude.{◌≡◌, refl, Bool, true, false, cond, ◌&&◌, List, ◌∷◌, ℕ, zero, suc, ◌*◌, ◌^◌, ◌≤◌, ◌<◌, T, ℤ, pos, negsuc, neg_ℤ, nat_abs, ◌*ℤ◌, Float, Err, Ok}
use Rattle.std.proofs.Common.{sym, ◌∙◌, subst, mul-pos, mul-le-mul_right, lt_of_mul-lt-mul_right, arith, ltb→lt, lit≤}
use Rattle.std.proofs.Math.Path.{ap}
use Rattle.std.specs.Float.{nan, inf, fin}
use Rattle.std.specs.Float.Ieee.{up, down, lt, of_bits}
use Rattle.std.specs.Float.Ieee.Exact.{HasValue}
use Rattle.std.specs.Float.Ieee.Fits.{down_pos}
use Rattle.std.specs.Float.Ieee.Order.{le_of_values}
use Rattle.floats.specs.Ops.{◌≺◌}
use Rattle.floats.specs.F64
use Rattle.plane.specs.Fuzzy.{fuzzy_eq_zero_eps, fuzzy_epsilon}
use Rattle.plane.specs.PlineVertex as vertex
use Rattle.plane.specs.PlineVertex.{bulge_is_zero}
use Rattle.plane.specs.declared.pline_vertex.PlineVertex.{PlineVertex}
use Rattle.checks.specs.declared.fault.Place.{Place}
use Rattle.checks.specs.Each
use Rattle.checks.specs.Arc.{arc_chord}
use Rattle.checks.specs.Calls.{pline_seg_checks, check_pline_seg}
use Rattle.checks.specs.Edges.{powers}
use Rattle.checks.specs.FirstFault.{AllFine, none, one, first_fine}
use Rattle.checks.specs.Limit
use Rattle.checks.specs.Answered.{answered}
use Rattle.checks.specs.Laws.Fine.{Within, Between, epsilon-fine, coordinate-fine, bulge-fine}
use Rattle.crossing.specs.PlineSeg.{pline_seg, process_line_line_intr}
use Rattle.arcs.specs.declared.pline_seg_intr.PlineSegIntr.{PlineSegIntr}
use Rattle.crossing.specs.PlineSegIntersect.{pline_seg_intr}
use Rattle.grid.specs.Promise.{signed, Is, Epsilon, Spot, On}
use Rattle.grid.specs.Plane.Whole.{gain, gain-neg}

-- ---- sizes
size-neg : (k : ℕ) → nat_abs (neg_ℤ (pos k)) ≡ k
size-neg zero = refl
size-neg (suc k) = refl

pub size-mul : (a b : ℤ) → nat_abs (a *ℤ b) ≡ nat_abs a * nat_abs b
size-mul (pos a) (pos b) = refl
size-mul (pos a) (negsuc b) = size-neg (a * suc b)
size-mul (negsuc a) (pos b) = size-neg (suc a * b)
size-mul (negsuc a) (negsuc b) = refl

size-signed : (s : Bool) (n : ℕ) → nat_abs (signed s n) ≡ n
size-signed false n = refl
size-signed true n = size-neg n

-- the size of a float that is z / c
sized : (s : Bool) (m c : ℕ) (e z : ℤ) → Is (fin s m e) z c → m * up e * c ≡ nat_abs z * down e
sized s m c e z h =
    ap (λ (k : ℕ). k * c) (sym (size-signed s (m * up e)))
    ∙ sym (size-mul (signed s (m * up e)) (pos c))
    ∙ ap nat_abs h
    ∙ size-mul z (pos (down e))

-- ---- coordinates
limit-value : HasValue Limit.coordinate false 1048576 1
limit-value = subst (λ (x : Float). HasValue x false 1048576 1) (sym powers.coordinate) (refl, refl)

coordinate-within : (x : Float) (z : ℤ) → Is x z 1 → nat_abs z ≤ 1048576 → Within Limit.coordinate x
unfolding F64.abs
coordinate-within nan z h l = absurd h
coordinate-within (inf s) z h l = absurd h
coordinate-within (fin s m e) z h l =
    record {
      number = tt;
      small = le_of_values (fin false m e) Limit.coordinate (nat_abs z) 1 1048576 1 (omega arith) (omega arith)
          (refl, sized s m 1 e z h) limit-value (omega arith);
    }

-- ---- the epsilon
not-minus : (m : ℕ) (e : ℤ) (num den : ℕ) → Is (fin true m e) (pos num) den → 0 < num → ⊥
not-minus m e num den h N =
    let some : 0 < num * down e = mul-pos N (down_pos e) in
    let k = gain-neg (pos (m * up e)) in
    go (neg_ℤ (pos (m * up e))) k.0 h some
  where
    go : (z : ℤ) → gain z ≡ 0 → z *ℤ pos den ≡ pos (num * down e) → 0 < num * down e → ⊥
    go (pos a) g h s = let f : a * den ≡ num * down e = ap gain h in let z : a * den ≡ 0 * den = ap (λ (x : ℕ). x * den) g in
        omega arith
    go (negsuc a) g h s =
        let f : gain (neg_ℤ (pos (suc a * den))) ≡ num * down e = ap gain h in
        let k = gain-neg (pos (suc a * den)) in
        omega (arith, k.0)

least-value : HasValue Limit.epsilon_least false 1 (2 ^ 40)
least-value = subst (λ (x : Float). HasValue x false 1 (2 ^ 40)) (sym powers.epsilon-least) (refl, refl)

most-value : HasValue Limit.epsilon_most false 1 2
most-value = subst (λ (x : Float). HasValue x false 1 2) (sym powers.epsilon-most) (refl, refl)

epsilon-between : (e : Float) (num den : ℕ) → Epsilon e num den → Between Limit.epsilon_least Limit.epsilon_most e
epsilon-between e num den h = go e h.value h.range.0 h.range.1 h.range.2
  where
    go : (e : Float) → Is e (pos num) den → 0 < den → den ≤ 1024 * num → 2 * num ≤ den
        → Between Limit.epsilon_least Limit.epsilon_most e
    go nan v D l m = absurd v
    go (inf s) v D l m = absurd v
    go (fin true k x) v D l m = absurd (not-minus k x num den v (omega arith))
    go (fin false k x) v D l m =
        let is : HasValue (fin false k x) false num den = (refl, sized false k den x (pos num) v) in
        record {
          number = tt;
          above = le_of_values Limit.epsilon_least (fin false k x) 1 (2 ^ 40) num den (omega arith) D least-value is (omega arith);
          below = le_of_values (fin false k x) Limit.epsilon_most num den 1 2 D (omega arith) is most-value (omega arith);
        }

-- ---- a line's bulge
bulge-value : HasValue Limit.bulge false 1 1
bulge-value = subst (λ (x : Float). HasValue x false 1 1) (sym powers.bulge) (refl, refl)

-- 1e-8, m * 2 ^ -78
near-zero : fuzzy_epsilon ≡ fin false 0xabcc77118461d (negsuc 77)
unfolding of_bits
near-zero = refl

below-near-zero : (b : Float) → T (F64.abs b ≺ fin false 0xabcc77118461d (negsuc 77)) → Within Limit.bulge b
unfolding F64.abs lt
below-near-zero nan t = absurd t
below-near-zero (inf s) t = absurd t
below-near-zero (fin s m e) t =
    let l : m * up e * 2 ^ 78 < 0xabcc77118461d * 1 * down e = ltb→lt (m * up e * 2 ^ 78) (0xabcc77118461d * 1 * down e) t in
    record {
      number = tt;
      small = le_of_values (fin false m e) Limit.bulge (m * up e) (down e) 1 1 (down_pos e) (omega arith) (refl, refl) bulge-value
          (small (2 ^ 78) 0xabcc77118461d (m * up e) (down e) (lit≤ tt) l);
    }
  where
    small : (k n x d : ℕ) → n ≤ k → x * k < n * 1 * d → x * 1 ≤ 1 * d
    small k n x d h l =
        let more : n * d ≤ k * d = mul-le-mul_right d h in
        let less : x * k < d * k = omega arith in
        let f : x < d = lt_of_mul-lt-mul_right k less in
        omega arith

bulge-within : (v : PlineVertex) → T (bulge_is_zero v) → Within Limit.bulge v.bulge
unfolding fuzzy_eq_zero_eps
bulge-within v t = below-near-zero v.bulge (subst (λ (x : Float). T (F64.abs v.bulge ≺ x)) near-zero t)

-- ---- the pair call
-- a check that is fine, before others that are fine
fine : (c : Checked) (cs : List Checked) → c ≡ Ok tt → AllFine cs → AllFine (c ∷ cs)
fine c cs e h = subst (λ (d : Checked). AllFine (d ∷ cs)) (sym e) (one h)

-- a vertex on the grid
on-grid : (v : PlineVertex) (p : Spot) (f g : Place) (cs : List Checked) → On v p → AllFine cs
    → AllFine (Each.coordinate v.x f ∷ Each.coordinate v.y g ∷ cs)
on-grid v p f g cs (x, x-le, y, y-le) h =
    fine _ _ ((coordinate-fine v.x f).1 (coordinate-within v.x p.x x x-le))
    (fine _ cs ((coordinate-fine v.y g).1 (coordinate-within v.y p.y y y-le)) h)

no-arc : (a b : PlineVertex) (owner index : ℕ) → T (bulge_is_zero a) → arc_chord a b owner index ≡ Ok tt
unfolding arc_chord
no-arc a b owner index t = go (bulge_is_zero a) _ t
  where
    go : (z : Bool) (c : Checked) → T z → cond z (Ok tt) c ≡ Ok tt
    go true c t = refl
    go false c t = absurd t

module _ (v1 v2 u1 u2 : PlineVertex) (p1 p2 q1 q2 : Spot) (e : Float) (num den : ℕ) where
  pub accepted : On v1 p1 → On v2 p2 → On u1 q1 → On u2 q2 → T (bulge_is_zero v1) → T (bulge_is_zero u1) → Epsilon e num den
      → pline_seg_intr v1 v2 u1 u2 e ≡ Ok (pline_seg v1 v2 u1 u2 e)
  unfolding pline_seg_intr check_pline_seg
  accepted at-v1 at-v2 at-u1 at-u2 line-v line-u eps =
      ap (λ (z : Checked). answered Err Ok z (pline_seg v1 v2 u1 u2 e))
      ((first_fine (pline_seg_checks v1 v2 u1 u2 e)).1
      (fine _ _ ((epsilon-fine e).1 (epsilon-between e num den eps))
      (on-grid v1 p1 _ _ _ at-v1
      (fine _ _ ((bulge-fine v1.bulge _).1 (bulge-within v1 line-v))
      (on-grid v2 p2 _ _ _ at-v2
      (on-grid u1 q1 _ _ _ at-u1
      (fine _ _ ((bulge-fine u1.bulge _).1 (bulge-within u1 line-u))
      (on-grid u2 q2 _ _ _ at-u2
      (fine _ _ (no-arc v1 v2 0 0 line-v)
      (fine _ _ (no-arc u1 u2 1 0 line-u) none))))))))))

-- ---- the pair call on two lines is the kernel
pub two-lines : (v1 v2 u1 u2 : PlineVertex) (e : Float) → T (bulge_is_zero v1) → T (bulge_is_zero u1)
    → pline_seg v1 v2 u1 u2 e ≡ process_line_line_intr (vertex.pos v1) (vertex.pos v2) (vertex.pos u1) (vertex.pos u2) e
unfolding pline_seg
two-lines v1 v2 u1 u2 e h k = go (bulge_is_zero v1) (bulge_is_zero u1) _ _ _ _ h k
  where
    go : (i j : Bool) (x y z w : PlineSegIntr) → T i → T j → cond (i && j) x (cond i y (cond j z w)) ≡ x
    go true true x y z w h k = refl
    go true false x y z w h k = absurd k
    go false j x y z w h k = absurd h
