-- Which way the line kernel takes on grid segments, in whole numbers: the crossing if the perp dot is not zero; else one of five
-- ways, each with its answer and with the exact condition under which the kernel takes it. v runs from v1 to v2, u from u1 to u2,
-- w from u1 to v1 and w2 from u1 to v2.
use Rattle.std.specs.Prelude.{◌≡◌, refl, ◌⊎◌, ℕ, ◌+◌, Bool, not, ◌&&◌, ◌||◌, T, eqb, Float}
use Rattle.std.proofs.Common.{sym, ◌∙◌, inl, inr, arith, eqb→eq}
use Rattle.std.proofs.Math.Path.{ap, subst}
use Rattle.std.proofs.Math.Bool.{true, false, cond}
use Rattle.std.proofs.Math.Dec.{not_T}
use Rattle.std.specs.Float.Ieee.Bits.{is_true, is_false}
use Rattle.std.specs.Float.Ieee.Fits.{eq→eqb, and_i, and_l, and_r}
use Rattle.floats.specs.Ops.{f0}
use Rattle.plane.specs.Vector2 as vector2
use Rattle.plane.specs.declared.vector2.Vector2.{Vector2}
use Rattle.plane.specs.Fuzzy.{fuzzy_eq_zero_eps}
use Rattle.plane.specs.BaseMath.{parametric_from_point}
use Rattle.crossing.specs.LineLine.{line_line, crossing, parallel, both_points, first_point, second_point, overlap, span_of}
use Rattle.crossing.specs.declared.line_line_intr.LineLineIntr.{LineLineIntr}
use Rattle.crossing.specs.declared.line_line_intr.LineLineIntr.TheVariants.{NoIntersect, TrueIntersect}
use Rattle.grid.specs.Floats.Small.{Small, Vec, vec-sub, perp}
use Rattle.grid.specs.Floats.Zero.{Eps, near-zero, near-point}
use Rattle.grid.specs.Floats.Length.{IsZero}
use Rattle.grid.specs.Floats.Parallel.{PointAt, point_at, Spanned, overlap-spanned}

decided : (p n q k : ℕ) → ((p ≡ n) × (q ≡ k)) ⊎ ((p ≡ n) × (q ≡ k) → ⊥)
decided p n q k = go (eqb p n) (eqb q k) (eqb→eq p n) (eqb→eq q k) (λ e. eq→eqb e) (λ e. eq→eqb e)
  where
    go : (a b : Bool) → (T a → p ≡ n) → (T b → q ≡ k) → (p ≡ n → T a) → (q ≡ k → T b)
        → ((p ≡ n) × (q ≡ k)) ⊎ ((p ≡ n) × (q ≡ k) → ⊥)
    go true true x y x' y' = inl (x tt, y tt)
    go true false x y x' y' = inr (λ z. y' z.1)
    go false b x y x' y' = inr (λ z. x' z.0)

-- a vector is a point, or it is not
pub point-or-not : (v : Vector2) (A : Vec 21 v) → IsZero v A ⊎ (IsZero v A → ⊥)
point-or-not v A = decided A.x.p A.x.n A.y.p A.y.n

module _ (e : Float) (num den : ℕ) (h : Eps e num den) where
  abbrev same-x : (a b : Vector2) → Vec 20 a → Vec 20 b → Bool
  same-x a b A B = eqb (A.x.p + B.x.n) (A.x.n + B.x.p)

  abbrev same-y : (a b : Vector2) → Vec 20 a → Vec 20 b → Bool
  same-y a b A B = eqb (A.y.p + B.y.n) (A.y.n + B.y.p)

  -- grid points are near each other exactly if they are the same
  pub same_point : (a b : Vector2) (A : Vec 20 a) (B : Vec 20 b) → IsZero (vector2.sub a b) (vec-sub a b A B)
      → vector2.fuzzy_eq_eps a b e ≡ true
  same_point a b A B z =
      near-point e num den h a b A B ∙ is_true (same-x a b A B && same-y a b A B)
      (and_i (same-x a b A B) (same-y a b A B) (eq→eqb z.0) (eq→eqb z.1))

  pub two-points : (a b : Vector2) (A : Vec 20 a) (B : Vec 20 b) → (IsZero (vector2.sub a b) (vec-sub a b A B) → ⊥)
      → vector2.fuzzy_eq_eps a b e ≡ false
  two-points a b A B z =
      near-point e num den h a b A B
      ∙ is_false (same-x a b A B && same-y a b A B)
      (not_T (same-x a b A B && same-y a b A B)
      (λ t. z (eqb→eq _ _ (and_l (same-x a b A B) (same-y a b A B) t), eqb→eq _ _ (and_r (same-x a b A B) (same-y a b A B) t))))

  turn : (a b : Vector2) (A : Vec 20 a) (B : Vec 20 b) → IsZero (vector2.sub b a) (vec-sub b a B A)
      → IsZero (vector2.sub a b) (vec-sub a b A B)
  turn a b A B z = (omega (arith, z.0), omega (arith, z.1))

  module _ (v1 v2 u1 u2 : Vector2) (A1 : Vec 20 v1) (A2 : Vec 20 v2) (B1 : Vec 20 u1) (B2 : Vec 20 u2) where
    abbrev v : Vector2
    v = vector2.sub v2 v1

    abbrev u : Vector2
    u = vector2.sub u2 u1

    abbrev w : Vector2
    w = vector2.sub v1 u1

    abbrev w2 : Vector2
    w2 = vector2.sub v2 u1

    abbrev V1 : Vec 21 v
    V1 = vec-sub v2 v1 A2 A1

    abbrev U1 : Vec 21 u
    U1 = vec-sub u2 u1 B2 B1

    abbrev W1 : Vec 21 w
    W1 = vec-sub v1 u1 A1 B1

    abbrev W2 : Vec 21 w2
    W2 = vec-sub v2 u1 A2 B1

    abbrev across : Small 44 (vector2.perp_dot v u)
    across = perp v u V1 U1

    abbrev off-v : Small 44 (vector2.perp_dot v w)
    off-v = perp v w V1 W1

    abbrev off-u : Small 44 (vector2.perp_dot u w)
    off-u = perp u w U1 W1

    on : {p n : ℕ} {t : Bool} → t ≡ eqb p n → p ≡ n → t ≡ true
    on q x = q ∙ is_true _ (eq→eqb x)

    off : (p n : ℕ) (t : Bool) → t ≡ eqb p n → (p ≡ n → ⊥) → t ≡ false
    off p n t q x = q ∙ is_false (eqb p n) (not_T (eqb p n) (λ y. x (eqb→eq p n y)))

    zero-across : fuzzy_eq_zero_eps (vector2.perp_dot v u) e ≡ eqb across.p across.n
    zero-across = near-zero e num den h 44 (vector2.perp_dot v u) across

    zero-v : fuzzy_eq_zero_eps (vector2.perp_dot v w) e ≡ eqb off-v.p off-v.n
    zero-v = near-zero e num den h 44 (vector2.perp_dot v w) off-v

    zero-u : fuzzy_eq_zero_eps (vector2.perp_dot u w) e ≡ eqb off-u.p off-u.n
    zero-u = near-zero e num den h 44 (vector2.perp_dot u w) off-u

    -- with the perp dot of the two segments
    pub goes-crossing : (across.p ≡ across.n → ⊥) → line_line v1 v2 u1 u2 e ≡ crossing v u w (vector2.perp_dot v u) e
    unfolding line_line
    goes-crossing x =
        ap (λ (z : Bool). cond (not z) (crossing v u w (vector2.perp_dot v u) e) (parallel v1 v2 u1 u2 v u w e))
        (off across.p across.n _ zero-across x)

    pub goes-parallel : across.p ≡ across.n → line_line v1 v2 u1 u2 e ≡ parallel v1 v2 u1 u2 v u w e
    unfolding line_line
    goes-parallel x =
        ap (λ (z : Bool). cond (not z) (crossing v u w (vector2.perp_dot v u) e) (parallel v1 v2 u1 u2 v u w e))
        (on zero-across x)

    -- the five ways of parallel segments
    abbrev ways : Bool → Bool → Bool → Bool → LineLineIntr
    ways a b c d =
        cond (not a || not b)
        NoIntersect
        (cond (c && d)
        (both_points v1 u1 e)
        (cond c
        (first_point v1 u1 u2 u e)
        (cond d (second_point v1 v2 u1 v e) (overlap v1 u1 u2 u (span_of w w2 u e) e))))

    goes : (a b c d : Bool) → fuzzy_eq_zero_eps (vector2.perp_dot v w) e ≡ a → fuzzy_eq_zero_eps (vector2.perp_dot u w) e ≡ b
        → vector2.fuzzy_eq_eps v1 v2 e ≡ c → vector2.fuzzy_eq_eps u1 u2 e ≡ d → parallel v1 v2 u1 u2 v u w e ≡ ways a b c d
    unfolding parallel
    goes a b c d p q r s =
        ap (λ (z : Bool). ways z (fuzzy_eq_zero_eps (vector2.perp_dot u w) e) (vector2.fuzzy_eq_eps v1 v2 e)
        (vector2.fuzzy_eq_eps u1 u2 e)) p
        ∙ ap (λ (z : Bool). ways a z (vector2.fuzzy_eq_eps v1 v2 e) (vector2.fuzzy_eq_eps u1 u2 e)) q
        ∙ ap (λ (z : Bool). ways a b z (vector2.fuzzy_eq_eps u1 u2 e)) r
        ∙ ap (λ (z : Bool). ways a b c z) s

    -- not on one straight line
    pub beside : (off-v.p ≡ off-v.n → ⊥) ⊎ (off-u.p ≡ off-u.n → ⊥) → parallel v1 v2 u1 u2 v u w e ≡ NoIntersect
    beside (inl x) = goes false _ _ _ (off off-v.p off-v.n _ zero-v x) refl refl refl
    beside (inr x) =
        goes _ false _ _ refl (off off-u.p off-u.n _ zero-u x) refl refl ∙ either (fuzzy_eq_zero_eps (vector2.perp_dot v w) e)
      where
        either : (a : Bool) → ways a false (vector2.fuzzy_eq_eps v1 v2 e) (vector2.fuzzy_eq_eps u1 u2 e) ≡ NoIntersect
        either true = refl
        either false = refl

    -- on one straight line
    module _ (x : off-v.p ≡ off-v.n) (y : off-u.p ≡ off-u.n) where
      at : (c d : Bool) → vector2.fuzzy_eq_eps v1 v2 e ≡ c → vector2.fuzzy_eq_eps u1 u2 e ≡ d
          → parallel v1 v2 u1 u2 v u w e ≡ ways true true c d
      at c d = goes true true c d (on zero-v x) (on zero-u y)

      -- both are points
      pub points : IsZero v V1 → IsZero u U1
          → ((parallel v1 v2 u1 u2 v u w e ≡ TrueIntersect f0 f0) × IsZero w W1)
          ⊎ ((parallel v1 v2 u1 u2 v u w e ≡ NoIntersect) × (IsZero w W1 → ⊥))
      unfolding both_points
      points a b = go (point-or-not w W1)
        where
          both : parallel v1 v2 u1 u2 v u w e ≡ both_points v1 u1 e
          both = at true true (same_point v1 v2 A1 A2 (turn v1 v2 A1 A2 a)) (same_point u1 u2 B1 B2 (turn u1 u2 B1 B2 b))

          go : IsZero w W1 ⊎ (IsZero w W1 → ⊥)
              → ((parallel v1 v2 u1 u2 v u w e ≡ TrueIntersect f0 f0) × IsZero w W1)
              ⊎ ((parallel v1 v2 u1 u2 v u w e ≡ NoIntersect) × (IsZero w W1 → ⊥))
          go (inl z) = inl (both ∙ ap (λ (t : Bool). cond t (TrueIntersect f0 f0) NoIntersect) (same_point v1 u1 A1 B1 z), z)
          go (inr z) = inr (both ∙ ap (λ (t : Bool). cond t (TrueIntersect f0 f0) NoIntersect) (two-points v1 u1 A1 B1 z), z)

      other : (a b : Vector2) (A : Vec 20 a) (B : Vec 20 b) → (IsZero (vector2.sub b a) (vec-sub b a B A) → ⊥)
          → vector2.fuzzy_eq_eps a b e ≡ false
      other a b A B z = two-points a b A B (λ k. z (turn b a B A k))

      -- the first is a point, the second is not
      pub first-point : IsZero v V1 → (IsZero u U1 → ⊥)
          → PointAt e u1 u2 v1 B1 B2 A1 (parallel v1 v2 u1 u2 v u w e) (TrueIntersect f0 (parametric_from_point u1 u2 v1 e))
      unfolding first_point
      first-point a b =
          subst (λ (r : LineLineIntr). PointAt e u1 u2 v1 B1 B2 A1 r (TrueIntersect f0 (parametric_from_point u1 u2 v1 e)))
          (sym (at true false (same_point v1 v2 A1 A2 (turn v1 v2 A1 A2 a)) (other u1 u2 B1 B2 b)))
          (point_at e num den h u1 u2 v1 B1 B2 A1 b (TrueIntersect f0 (parametric_from_point u1 u2 v1 e)))

      -- the second is a point, the first is not
      pub second-point : (IsZero v V1 → ⊥) → IsZero u U1
          → PointAt e v1 v2 u1 A1 A2 B1 (parallel v1 v2 u1 u2 v u w e) (TrueIntersect (parametric_from_point v1 v2 u1 e) f0)
      unfolding second_point
      second-point a b =
          subst (λ (r : LineLineIntr). PointAt e v1 v2 u1 A1 A2 B1 r (TrueIntersect (parametric_from_point v1 v2 u1 e) f0))
          (sym (at false true (other v1 v2 A1 A2 a) (same_point u1 u2 B1 B2 (turn u1 u2 B1 B2 b))))
          (point_at e num den h v1 v2 u1 A1 A2 B1 a (TrueIntersect (parametric_from_point v1 v2 u1 e) f0))

      -- neither is a point
      pub goes-overlap : (IsZero v V1 → ⊥) → (IsZero u U1 → ⊥)
          → parallel v1 v2 u1 u2 v u w e ≡ overlap v1 u1 u2 u (span_of w w2 u e) e
      goes-overlap a b = at false false (other v1 v2 A1 A2 a) (other u1 u2 B1 B2 b)

      pub segments : (IsZero v V1 → ⊥) → (IsZero u U1 → ⊥)
          → Spanned (parallel v1 v2 u1 u2 v u w e) W1.x.p W1.x.n W2.x.p W2.x.n U1.x.p U1.x.n
          ⊎ Spanned (parallel v1 v2 u1 u2 v u w e) W1.y.p W1.y.n W2.y.p W2.y.n U1.y.p U1.y.n
      segments a b =
          subst (λ (r : LineLineIntr). Spanned r W1.x.p W1.x.n W2.x.p W2.x.n U1.x.p U1.x.n
          ⊎ Spanned r W1.y.p W1.y.n W2.y.p W2.y.n U1.y.p U1.y.n)
          (sym (goes-overlap a b))
          (overlap-spanned e num den h v1 u1 u2 w w2 u W1 W2 U1 b)
