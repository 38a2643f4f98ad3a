-- The rows of a class are the pairs of that class, and each pair has one of six classes.
use Rattle.std.specs.Prelude.{◌≡◌, Bool, true, false, cond, not, ℕ, zero, suc, ◌+◌, ◌-◌, ◌*◌, ◌≤◌, ◌<◌, eqb, Float, length}
use Rattle.std.proofs.Math.Path.{refl}
use Rattle.std.proofs.Common.{sym, ap, ◌∙◌, suc-mul, ne_eqb, length-append}
use mathlib.Core.List.{List, [], ◌∷◌, ◌++◌}
use native.Mathlib.Omega.{arith}
use Rattle.crossing.specs.PlineSegIntr.{class_of}
use Rattle.arcs.specs.declared.pline_seg_intr.PlineSegIntr.{PlineSegIntr}
use Rattle.arcs.specs.declared.pline_seg_intr.PlineSegIntr.TheVariants as met
use Rattle.listing_pairs.specs.declared.row.Row.{Row}
use Rattle.listing_pairs.specs.declared.row.Look.{Look}
use Rattle.listing_pairs.specs.Row.{row, unless_apart, look_of}
use Rattle.listing_pairs.specs.Order.{Pair, along, pairs_from, mutual_pairs, those}
use Rattle.listing_pairs.specs.Rows.{onto, rows_of}
use Rattle.listing_pairs.specs.Look.{look}
use Rattle.listing_pairs.specs.Laws.Order.{along-length}
use Rattle.listing_calls.specs.Complete.{pair_of}
use Rattle.month.specs.Counted.{one_if, in_class}

-- ---- how many pairs a test keeps
pub those-one : (test : Pair → Bool) (p : Pair) (ps : List Pair)
    → length (those test (p ∷ ps)) ≡ one_if (test p) + length (those test ps)
those-one test p ps = go (test p)
  where
    go : (b : Bool) → length (cond b (p ∷ those test ps) (those test ps)) ≡ one_if b + length (those test ps)
    go true = omega arith
    go false = omega arith

pub those-split : (test : Pair → Bool) (ps : List Pair)
    → length (those test ps) + length (those (λ p. not (test p)) ps) ≡ length ps
those-split test [] = omega arith
those-split test (p ∷ ps) =
    omega (arith, those-one test p ps, those-one (λ p. not (test p)) p ps, either (test p), those-split test ps)
  where
    either : (b : Bool) → one_if b + one_if (not b) ≡ 1
    either true = refl
    either false = refl

-- ---- how many pairs there are
rows-of-pairs : (m i k : ℕ) → length (pairs_from (λ i. 0) (λ i. m) i 0 k) ≡ k * m
rows-of-pairs m i zero = omega arith
rows-of-pairs m i (suc k) =
    let rest = pairs_from (λ i. 0) (λ i. m) (suc i) 0 k in
    omega (arith, length-append (along i 0 (m - 0)) rest, along-length i 0 (m - 0), rows-of-pairs m (suc i) k, suc-mul k m)

pub mutual-length : (n m : ℕ) → length (mutual_pairs n m) ≡ n * m
mutual-length n m = rows-of-pairs m 0 n

-- ---- pairs and rows by class
module _ (first second : List Float) (epsilon : Float) where
  abbrev pub is_of : ℕ → Pair → Bool
  is_of class p = eqb (class_of (pair_of first second epsilon p.i p.j)) class

  -- a pair of class 0 makes no row; any other makes one, with its class
  module _ (p : Pair) (rows : List Row) where
    abbrev class-of-lem : ℕ
    class-of-lem = class_of (pair_of first second epsilon p.i p.j)

    row-class : (k : ℕ) (r : Row) (c : ℕ) → r.class ≡ k → 0 < c
        → in_class c (onto (unless_apart k r) rows) ≡ one_if (eqb k c) + in_class c rows
    row-class zero r c e h =
        let z : one_if (eqb 0 c) ≡ 0 = ap one_if (ne_eqb 0 c (λ x. omega (arith, x, h))) in
        omega (arith, z)
    row-class (suc k) r c e h = ap (λ (n : ℕ). one_if (eqb n c) + in_class c rows) e

    row-none : (k : ℕ) (r : Row) → one_if (eqb k 0) + length (onto (unless_apart k r) rows) ≡ suc (length rows)
    row-none zero r = omega arith
    row-none (suc k) r =
        let e : eqb (suc k) 0 ≡ false = ne_eqb (suc k) 0 (λ x. omega (arith, x)) in
        let z : one_if (eqb (suc k) 0) ≡ 0 = ap one_if e in
        omega (arith, z)

  pub rows-of-class : (c : ℕ) → 0 < c → (ps : List Pair)
      → in_class c (rows_of (look first second epsilon) ps) ≡ length (those (is_of c) ps)
  unfolding look look_of
  rows-of-class c h [] = refl
  rows-of-class c h (p ∷ ps) =
      let m = pair_of first second epsilon p.i p.j in
      omega (
        arith,
        row-class p (rows_of (look first second epsilon) ps) (class_of m) (row p.i p.j m) c refl h,
        rows-of-class c h ps,
        those-one (is_of c) p ps,
      )

  pub pairs-without-row : (ps : List Pair)
      → length (those (is_of 0) ps) + length (rows_of (look first second epsilon) ps) ≡ length ps
  unfolding look look_of
  pairs-without-row [] = omega arith
  pairs-without-row (p ∷ ps) =
      let m = pair_of first second epsilon p.i p.j in
      omega (
        arith,
        row-none p (rows_of (look first second epsilon) ps) (class_of m) (row p.i p.j m),
        pairs-without-row ps,
        those-one (is_of 0) p ps,
      )

  -- each pair has one of the six classes
  one-of-six : (m : PlineSegIntr)
      → one_if (eqb (class_of m) 0) + one_if (eqb (class_of m) 1) + one_if (eqb (class_of m) 2)
      + one_if (eqb (class_of m) 3) + one_if (eqb (class_of m) 4) + one_if (eqb (class_of m) 5) ≡ 1
  one-of-six met.NoIntersect = refl
  one-of-six (met.TangentIntersect a) = refl
  one-of-six (met.OneIntersect a) = refl
  one-of-six (met.TwoIntersects a b) = refl
  one-of-six (met.OverlappingLines a b) = refl
  one-of-six (met.OverlappingArcs a b) = refl

  pub six-classes : (ps : List Pair)
      → length (those (is_of 0) ps) + length (those (is_of 1) ps) + length (those (is_of 2) ps)
      + length (those (is_of 3) ps) + length (those (is_of 4) ps) + length (those (is_of 5) ps) ≡ length ps
  six-classes [] = omega arith
  six-classes (p ∷ ps) =
      omega (
        arith,
        one-of-six (pair_of first second epsilon p.i p.j),
        six-classes ps,
        those-one (is_of 0) p ps,
        those-one (is_of 1) p ps,
        those-one (is_of 2) p ps,
        those-one (is_of 3) p ps,
        those-one (is_of 4) p ps,
        those-one (is_of 5) p ps,
      )
