-- No part of a text line has more bytes than Sizes.antt says, and no answer has.
use Prim.Native.Nat.{ℕ, zero, suc, ◌+◌, ◌*◌, ◌^◌, ◌≤◌, ◌<◌}
use Rattle.std.specs.Prelude.{◌≡◌, Bool, true, false, cond, List, [], ◌++◌, ltb, eqb, length, get_or, Float}
use native.Mathlib.Omega.{arith}
use Rattle.std.proofs.Math.ListN.{length-append}
use Rattle.std.specs.Float.{binary64}
use Rattle.std.specs.Float.Ieee.{to_bits}
use Rattle.put_text.specs.Decimal.{decimal}
use Rattle.put_text.specs.Sizes.{whole}
use Rattle.put_text.specs.Laws.Decimal.{decimal-long}
use Rattle.answer_lines.specs.Lines
use Rattle.answer_lines.specs.Sizes
use Rattle.answer_lines.specs.Laws.Hex.{hex-long}

whole-short : (n : ℕ) → n < 2 ^ 64 → length (decimal n) ≤ whole
whole-short n h = decimal-long 19 n (omega arith)

float-long : (x : Float) → length (Lines.number_text x) ≡ Sizes.float
unfolding Lines.number_text
float-long x = let h = hex-long 16 (to_bits binary64 x) in simp length-append (omega arith)

name-short : (class : ℕ) → length (Lines.class_text class) ≤ Sizes.name
unfolding Lines.class_text
name-short class = go (eqb class 1) (eqb class 2) (eqb class 3) (eqb class 4) (eqb class 5)
  where
    go : (a b c d e : Bool)
        → length (cond a Lines.tangent_word (cond b Lines.one_word (cond c Lines.two_word
        (cond d Lines.lines_word (cond e Lines.arcs_word Lines.none_word))))) ≤ Sizes.name
    go true b c d e = omega arith
    go false true c d e = omega arith
    go false false true d e = omega arith
    go false false false true e = omega arith
    go false false false false true = omega arith
    go false false false false false = omega arith

points-short : (class : ℕ) (x1 y1 x2 y2 : Float) → length (Lines.points_text class x1 y1 x2 y2) ≤ Sizes.points
unfolding Lines.points_text
points-short class x1 y1 x2 y2 = go (ltb class 1) (ltb class 3) (ltb class 6)
  where
    two : List ℕ
    two = Lines.number_text x1 ++ Lines.number_text y1

    four : List ℕ
    four = Lines.number_text x1 ++ Lines.number_text y1 ++ Lines.number_text x2 ++ Lines.number_text y2

    go : (a b c : Bool) → length (cond a [] (cond b two (cond c four []))) ≤ Sizes.points
    go true b c = omega arith
    go false true c = simp length-append (omega (arith, float-long x1, float-long y1))
    go false false true =
        simp length-append (omega (arith, float-long x1, float-long y1, float-long x2, float-long y2))
    go false false false = omega arith

-- ---- text lines
pub refusal-short : (n : ℕ) → n < 2 ^ 64 → length (Lines.refused_text n) ≤ Sizes.refusal
unfolding Lines.refused_text
refusal-short n h = let digits = whole-short n h in simp length-append (omega arith)

pub refusal-at-short : (n k : ℕ) → n < 2 ^ 64 → k < 2 ^ 64 → length (Lines.refused_at_text n k) ≤ Sizes.refusal_at
unfolding Lines.refused_at_text
refusal-at-short n k h g =
    let first = whole-short n h in
    let second = whole-short k g in
    simp length-append (omega arith)

pub counts-short : (pairs rows : ℕ) → pairs < 2 ^ 64 → rows < 2 ^ 64 → length (Lines.count_text pairs rows) ≤ Sizes.counts
unfolding Lines.count_text
counts-short pairs rows p r =
    let first = whole-short pairs p in
    let second = whole-short rows r in
    simp length-append (omega arith)

pub row-short : (i j class : ℕ) (x1 y1 x2 y2 : Float) → i < 2 ^ 64 → j < 2 ^ 64
    → length (Lines.row_text i j class x1 y1 x2 y2) ≤ Sizes.row
unfolding Lines.row_text
row-short i j class x1 y1 x2 y2 h k =
    let first = whole-short i h in
    let second = whole-short j k in
    let name = name-short class in
    let points = points-short class x1 y1 x2 y2 in
    simp length-append (omega arith)

-- ---- an answer
module _ (index : List ℕ) (points : List Float) (below : (k : ℕ) → get_or index k 0 < 2 ^ 64) where
  one-short : (k : ℕ) → length (Lines.row_at index points k) ≤ Sizes.row
  unfolding Lines.row_at
  one-short k = row-short _ _ _ _ _ _ _ (below _) (below _)

  rows_short : (n k : ℕ) → length (Lines.rows_text index points n k) ≤ n * Sizes.row
  unfolding Lines.rows_text
  rows_short zero k = omega arith
  rows_short (suc n) k =
      let one = one-short k in
      let rest = rows_short n (k + 1) in
      simp length-append (omega arith)

  pub answer-short : (pairs rows : ℕ) → pairs < 2 ^ 64 → rows < 2 ^ 64
      → length (Lines.answer_text pairs rows index points) ≤ Sizes.counts + rows * Sizes.row
  unfolding Lines.answer_text
  answer-short pairs rows p r =
      let first = counts-short pairs rows p r in
      let rest = rows_short rows 0 in
      simp length-append (omega arith)
