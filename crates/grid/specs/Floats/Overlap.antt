-- Grid segments on one straight line, in whole numbers. The ends of the first lie at (P0 - N0) / D and (P1 - N1) / D of the
-- second, where D is a side of it. The kernel answers NoIntersect if both lie beyond 1 or both before 0, Overlapping if the
-- segments share more than a point, and TrueIntersect if they share one.
use Rattle.std.specs.Prelude.{◌≡◌, refl, ◌⊎◌, Bool, true, false, not, cond, ◌||◌, T, leb, eqb, Float}
use Rattle.std.proofs.Common.{sym, ◌∙◌, subst, inl, inr, eq-or-lt_of_le, lt_irrefl, arith, leb→le, le→leb, eqb→eq, T_not}
use Prim.Native.Nat.{ℕ, ◌+◌, ◌-◌, ◌*◌, ◌^◌, ◌≤◌, ◌<◌, min}
use Rattle.std.proofs.Math.Arith.{lt_of_le-ne}
use Rattle.std.proofs.Math.Dec.{nleb→lt, not_T}
use Rattle.std.specs.Float.Ieee.Fits.{eq→eqb}
use Rattle.std.specs.Float.Ieee.Bits.{is_true, is_false}
use Rattle.float_laws.specs.Tests.{same_test}
use Rattle.floats.specs.Ops.{◌⊖◌, ◌⊗◌, f0, f1}
use Rattle.floats.specs.F64
use Rattle.plane.specs.Vector2 as vector2
use Rattle.plane.specs.declared.vector2.Vector2.{Vector2}
use Rattle.plane.specs.Fuzzy.{fuzzy_eq_zero_eps, fuzzy_gt_eps, fuzzy_lt_eps}
use Rattle.crossing.specs.LineLine.{overlap, touching_end}
use Rattle.crossing.specs.declared.line_line.Span.{Span}
use Rattle.crossing.specs.declared.line_line_intr.LineLineIntr.{LineLineIntr}
use Rattle.crossing.specs.declared.line_line_intr.LineLineIntr.TheVariants.{NoIntersect, TrueIntersect, Overlapping}
use Rattle.grid.specs.Floats.Zero.{Eps}
use Rattle.grid.specs.Floats.Length.{Long}
use Rattle.grid.specs.Floats.Reach.{on-axis}
use Rattle.grid.specs.Floats.Range.{before-end, beyond-end, after-start, before-start}
use Rattle.grid.specs.Floats.Ratio.{Place, wider}
use Rattle.grid.specs.Floats.Span.{Part, Risen, from_zero, to_one}
use Rattle.grid.specs.Floats.Shared.{shared-none, shared-some}

-- ---- the three answers, from the lower end (Pl - Nl) / D and the upper end (Ph - Nh) / D
pub record Clear (r : LineLineIntr) (Pl Nl Ph Nh D : ℕ) : Type 0 where
  pub is : r ≡ NoIntersect
  pub why : (Nl + D < Pl) ⊎ (Ph < Nh)

pub record Touching (r : LineLineIntr) (Pl Nl Ph Nh D : ℕ) : Type 0 where
  pub t1 : Float
  pub t2 : Float
  pub is : r ≡ TrueIntersect t1 t2
  pub lower : Pl ≤ Nl + D
  pub upper : Nh ≤ Ph
  pub why : (Pl ≡ Nl + D) ⊎ ((Ph ≡ Nh) ⊎ (Pl + Nh ≡ Ph + Nl))

pub record Sharing (r : LineLineIntr) (Pl Nl Ph Nh D : ℕ) : Type 0 where
  pub t0 : Float
  pub t1 : Float
  pub is : r ≡ Overlapping t0 t1
  pub lower : Pl < Nl + D
  pub upper : Nh < Ph
  pub longer : Pl + Nh < Ph + Nl

abbrev pub Overlapped : LineLineIntr → ℕ → ℕ → ℕ → ℕ → ℕ → Type 0
Overlapped r Pl Nl Ph Nh D = Clear r Pl Nl Ph Nh D ⊎ (Touching r Pl Nl Ph Nh D ⊎ Sharing r Pl Nl Ph Nh D)

-- they share one point: at the far end, at the near end, or they are points
one-point : (Pl Nl Ph Nh D : ℕ) → 0 < D → Pl ≤ Nl + D → Nh ≤ Ph → Pl + Nh ≤ Ph + Nl → Pl - Nl ≡ min (Ph - Nh) D
    → (Pl ≡ Nl + D) ⊎ ((Ph ≡ Nh) ⊎ (Pl + Nh ≡ Ph + Nl))
one-point Pl Nl Ph Nh D pos a b c q = go (eq-or-lt_of_le a) (eq-or-lt_of_le b)
  where
    go : (Pl ≡ Nl + D) ⊎ (Pl < Nl + D) → (Nh ≡ Ph) ⊎ (Nh < Ph) → (Pl ≡ Nl + D) ⊎ ((Ph ≡ Nh) ⊎ (Pl + Nh ≡ Ph + Nl))
    go (inl x) y = inl x
    go (inr x) (inl y) = inr (inl (sym y))
    go (inr x) (inr y) = inr (inr (omega arith))

-- they share more than one
more-points : (Pl Nl Ph Nh D : ℕ) → 0 < D → Pl ≤ Nl + D → Nh ≤ Ph → Pl + Nh ≤ Ph + Nl → (Pl - Nl ≡ min (Ph - Nh) D → ⊥)
    → (Pl < Nl + D) × (Nh < Ph) × (Pl + Nh < Ph + Nl)
more-points Pl Nl Ph Nh D pos a b c q =
    let low : Pl - Nl ≤ min (Ph - Nh) D = omega arith in
    let l : Pl - Nl < min (Ph - Nh) D = lt_of_le-ne low q in
    (omega arith, omega arith, omega arith)

module _ (e : Float) (num den : ℕ) (h : Eps e num den)
    (v1 u1 u2 u : Vector2) (S : ℕ) (g : Long u S)
    (D : ℕ) (C : 0 < D) (few : D ≤ 2 ^ 21) (side : D * D ≤ S) where
  abbrev len : Float
  len = vector2.length u

  -- ---- the two range tests are exact
  pub end_test : (t : Float) (P N : ℕ) → Place 21 t P N D → fuzzy_lt_eps (t ⊗ len) len e ≡ leb P (N + D)
  end_test t P N a =
      same_test (fuzzy_lt_eps (t ⊗ len) len e) (leb P (N + D))
      (λ x. le→leb P (N + D) (on-axis e num den h S D a.some side (N + D) P
      (beyond-end e num den h u S g t P N D (wider a) x)))
      (λ x. before-end e num den h u S g t P N D (wider a) (leb→le P (N + D) x))

  pub start_test : (t : Float) (P N : ℕ) → Place 21 t P N D → fuzzy_gt_eps (t ⊗ len) f0 e ≡ leb N P
  start_test t P N a =
      same_test (fuzzy_gt_eps (t ⊗ len) f0 e) (leb N P)
      (λ x. le→leb N P (on-axis e num den h S D a.some side P N
      (before-start e num den h u S g t P N D (wider a) x)))
      (λ x. after-start e num den h u S g t P N D (wider a) (leb→le N P x))

  -- ---- the test for a single point is exact, if these two say yes
  pub single-test : (s : Span) (P0 N0 P1 N1 : ℕ) (r : Risen D few s P0 N0 P1 N1) → r.Pl ≤ r.Nl + D → r.Nh ≤ r.Ph
      → fuzzy_eq_zero_eps ((F64.min s.t1 f1 ⊖ F64.max s.t0 f0) ⊗ len) e ≡ eqb (r.Pl - r.Nl) (min (r.Ph - r.Nh) D)
  single-test s P0 N0 P1 N1 r lo hi = go (eq-or-lt_of_le low)
    where
      x0 : Float
      x0 = F64.max s.t0 f0

      x1 : Float
      x1 = F64.min s.t1 f1

      m0 : ℕ
      m0 = r.Pl - r.Nl

      m1 : ℕ
      m1 = min (r.Ph - r.Nh) D

      low : m0 ≤ m1
      low = cut r.Pl r.Nl r.Ph r.Nh lo hi r.rises
        where
          cut : (a b c d : ℕ) → a ≤ b + D → d ≤ c → a + d ≤ c + b → a - b ≤ min (c - d) D
          cut a b c d x y z = omega arith

      high : m1 ≤ D
      high = omega arith

      X0 : Part D x0 m0
      X0 = from_zero D few s.t0 r.Pl r.Nl r.lower lo

      X1 : Part D x1 m1
      X1 = to_one D few s.t1 r.Ph r.Nh r.upper hi

      go : (m0 ≡ m1) ⊎ (m0 < m1) → fuzzy_eq_zero_eps ((x1 ⊖ x0) ⊗ len) e ≡ eqb m0 m1
      go (inl q) = shared-none e num den h u S g D C few side x0 x1 m0 m1 X0 X1 low high q ∙ sym (is_true (eqb m0 m1) (eq→eqb q))
      go (inr l) =
          shared-some e num den h u S g D C few side x0 x1 m0 m1 X0 X1 low high l
          ∙ sym (is_false (eqb m0 m1) (not_T (eqb m0 m1) (λ t. lt_irrefl m1 (subst (λ (z : ℕ). z < m1) (eqb→eq m0 m1 t) l))))

  -- ---- the answer
  pub overlap-says : (s : Span) (P0 N0 P1 N1 : ℕ) (r : Risen D few s P0 N0 P1 N1)
      → Overlapped (overlap v1 u1 u2 u s e) r.Pl r.Nl r.Ph r.Nh D
  unfolding overlap
  overlap-says s P0 N0 P1 N1 r =
      go (fuzzy_lt_eps (s.t0 ⊗ len) len e) (fuzzy_gt_eps (s.t1 ⊗ len) f0 e)
      (end_test s.t0 Pl Nl r.lower) (start_test s.t1 Ph Nh r.upper)
    where
      Pl : ℕ
      Pl = r.Pl

      Nl : ℕ
      Nl = r.Nl

      Ph : ℕ
      Ph = r.Ph

      Nh : ℕ
      Nh = r.Nh

      x0 : Float
      x0 = F64.max s.t0 f0

      x1 : Float
      x1 = F64.min s.t1 f1

      inner : LineLineIntr
      inner = cond (fuzzy_eq_zero_eps ((x1 ⊖ x0) ⊗ len) e) (TrueIntersect (touching_end v1 u1 u2 e) x0) (Overlapping x0 x1)

      go : (a b : Bool) → a ≡ leb Pl (Nl + D) → b ≡ leb Nh Ph → Overlapped (cond (not a || not b) NoIntersect inner) Pl Nl Ph Nh D
      go false b p q = inl (record { is = refl; why = inl (nleb→lt Pl (Nl + D) (subst (λ (z : Bool). T (not z)) p tt)) })
      go true false p q = inl (record { is = refl; why = inr (nleb→lt Nh Ph (subst (λ (z : Bool). T (not z)) q tt)) })
      go true true p q = inr (both (leb→le Pl (Nl + D) (subst T p tt)) (leb→le Nh Ph (subst T q tt)))
        where
          both : Pl ≤ Nl + D → Nh ≤ Ph → Touching inner Pl Nl Ph Nh D ⊎ Sharing inner Pl Nl Ph Nh D
          both lo hi = at (fuzzy_eq_zero_eps ((x1 ⊖ x0) ⊗ len) e) (single-test s P0 N0 P1 N1 r lo hi)
            where
              at : (c : Bool) → c ≡ eqb (Pl - Nl) (min (Ph - Nh) D)
                  → Touching (cond c (TrueIntersect (touching_end v1 u1 u2 e) x0) (Overlapping x0 x1)) Pl Nl Ph Nh D
                  ⊎ Sharing (cond c (TrueIntersect (touching_end v1 u1 u2 e) x0) (Overlapping x0 x1)) Pl Nl Ph Nh D
              at true q = inl (record {
                t1 = touching_end v1 u1 u2 e;
                t2 = x0;
                is = refl;
                lower = lo;
                upper = hi;
                why = one-point Pl Nl Ph Nh D C lo hi r.rises (eqb→eq (Pl - Nl) (min (Ph - Nh) D) (subst T q tt));
              })
              at false q =
                  let k = more-points Pl Nl Ph Nh D C lo hi r.rises
                  (λ x. T_not (eqb (Pl - Nl) (min (Ph - Nh) D)) (subst (λ (z : Bool). T (not z)) q tt) (eq→eqb x)) in
                  inr (record { t0 = x0; t1 = x1; is = refl; lower = k.0; upper = k.1; longer = k.2 })
