-- What the sieve of lines takes away does not meet: the pair's definition says so.
use Rattle.std.specs.Prelude.{◌≡◌, Bool, true, false, not, cond, ◌&&◌, ◌||◌, T, Float}
use Rattle.std.proofs.Math.Path.{refl}
use Rattle.std.proofs.Common.{sym, ap, ◌∙◌, subst, true≢false}
use Rattle.std.specs.Float.{nan, inf, fin, binary64}
use Rattle.std.specs.Float.Ieee.{fits, add, sub, mul, div, lt, round, of_bits, neg}
use Rattle.floats.specs.Ops.{◌⊖◌, ◌⊗◌, ◌⊘◌, ◌≺◌, f0}
use Rattle.floats.specs.F64
use Rattle.plane.specs.Fuzzy.{fuzzy_eq_zero_eps}
use Rattle.plane.specs.PlineVertex.{pos, bulge_is_zero}
use Rattle.plane.specs.Vector2 as vector2
use Rattle.plane.specs.declared.pline_vertex.PlineVertex.{PlineVertex}
use Rattle.ranges.specs.Workings.OnSegment.{usual, after_end}
use Rattle.crossing.specs.PlineSeg.{pline_seg}
use Rattle.arcs.specs.declared.pline_seg_intr.PlineSegIntr.TheVariants.{NoIntersect}
use Rattle.fast_pair.specs.Workings.ClearlyApart.{quotient_outside, crosses_outside, lines_apart, before_start}
use Rattle.fast_pair.specs.Laws.Pair.{apart-two-lines}
use Rattle.sieves.specs.declared.lines.Side.{Side}
use Rattle.sieves.specs.Workings.Lines.{usual_line, side_of, sides_apart}

-- ---- with a NaN vector no test says yes
no_number : f0 ⊘ f0 ≡ nan
unfolding div of_bits
no_number = refl

times-nan : (x : Float) → x ⊗ nan ≡ nan
unfolding mul
times-nan nan = refl
times-nan (inf s) = refl
times-nan (fin s m e) = refl

nan-times : (x : Float) → nan ⊗ x ≡ nan
unfolding mul
nan-times nan = refl
nan-times (inf s) = refl
nan-times (fin s m e) = refl

minus-nan : nan ⊖ nan ≡ nan
unfolding sub add neg
minus-nan = refl

nan-below : (x : Float) → lt nan x ≡ false
unfolding lt
nan-below nan = refl
nan-below (inf s) = refl
nan-below (fin s m e) = refl

below_nan : (x : Float) → lt x nan ≡ false
unfolding lt
below_nan nan = refl
below_nan (inf s) = refl
below_nan (fin s m e) = refl

nan-near : (eps : Float) → fuzzy_eq_zero_eps nan eps ≡ false
unfolding fuzzy_eq_zero_eps F64.abs
nan-near eps = nan-below eps

nan-outside : (n : Float) → quotient_outside n nan ≡ false
unfolding quotient_outside
nan-outside n = rw (nan-times after_end, nan-times before_start, nan-below n, below_nan n) refl

cross-nan : (x y : Float) → x ⊗ nan ⊖ y ⊗ nan ≡ nan
cross-nan x y = rw (times-nan x, times-nan y) minus-nan

never : (v : Side) (x y : Float) (eps : Float)
    → sides_apart v (record { x = x; y = y; dx = f0 ⊘ f0; dy = f0 ⊘ f0 }) eps ≡ false
unfolding sides_apart
never v x y eps =
    rw (no_number, cross-nan v.dx v.dy, nan-near eps)
    (rw (nan-outside (nan ⊗ (v.y ⊖ y) ⊖ nan ⊗ (v.x ⊖ x)), nan-outside (v.dx ⊗ (v.y ⊖ y) ⊖ v.dy ⊗ (v.x ⊖ x))) refl)

-- ---- on two lines of usual length the test is that of the pair call
same_test : (a b p q s t : Bool) → s ≡ true → t ≡ true → ((a && not b) || (not a && (p || q))) ≡ true
    → T (cond a (not b) ((s && p) || (t && q)))
same_test true b p q s t e f h = said (not b) h
  where
    said : (c : Bool) → (c || false) ≡ true → T c
    said true g = tt
    said false g = absurd (true≢false (sym g))
same_test false b p q s t e f h = rw (e, f) (said (p || q) h)
  where
    said : (c : Bool) → c ≡ true → T c
    said true g = tt
    said false g = absurd (true≢false (sym g))

both : (a b : Bool) → (a && b) ≡ true → (a ≡ true) × (b ≡ true)
both true b h = (refl, h)
both false b h = absurd (true≢false (sym h))

module _ (v1 v2 u1 u2 : PlineVertex) (eps : Float) (e-fits : T (fits binary64 eps)) (hv : usual_line v1 v2 eps ≡ true) where
  abbrev v : Side
  v = record { x = v1.x; y = v1.y; dx = v2.x ⊖ v1.x; dy = v2.y ⊖ v1.y }

  abbrev sided : Bool → PlineVertex → PlineVertex → Side
  sided b a c =
      cond b
      (record { x = a.x; y = a.y; dx = c.x ⊖ a.x; dy = c.y ⊖ a.y })
      (record { x = a.x; y = a.y; dx = f0 ⊘ f0; dy = f0 ⊘ f0 })

  two-lines : usual_line u1 u2 eps ≡ true → sides_apart v (sided true u1 u2) eps ≡ true → pline_seg v1 v2 u1 u2 eps ≡ NoIntersect
  unfolding usual_line sides_apart lines_apart crosses_outside pos vector2.sub
  two-lines hu g =
      let w = vector2.sub (pos v1) (pos u1) in
      let way-v = vector2.sub (pos v2) (pos v1) in
      let way-u = vector2.sub (pos u2) (pos u1) in
      let d = vector2.perp_dot way-v way-u in
      let n = vector2.perp_dot way-u w in
      let m = vector2.perp_dot way-v w in
      let of-v = both (bulge_is_zero v1) _ hv in
      let of-u = both (bulge_is_zero u1) _ hu in
      apart-two-lines v1 v2 u1 u2 (pos v1) (pos v2) (pos u1) (pos u2) eps e-fits of-v.0 of-u.0 refl refl refl refl
      (same_test (fuzzy_eq_zero_eps d eps) (fuzzy_eq_zero_eps n eps) (quotient_outside n d) (quotient_outside m d) _ _ of-v.1 of-u.1
      g)

  judged : (b : Bool) → usual_line u1 u2 eps ≡ b → sides_apart v (sided b u1 u2) eps ≡ true
      → pline_seg v1 v2 u1 u2 eps ≡ NoIntersect
  judged true hu g = two-lines hu g
  judged false hu g = absurd (true≢false (sym g ∙ never v u1.x u1.y eps))

  pub sides-apart-lem : sides_apart (side_of v1 v2 eps) (side_of u1 u2 eps) eps ≡ true → pline_seg v1 v2 u1 u2 eps ≡ NoIntersect
  unfolding side_of
  sides-apart-lem h =
      judged (usual_line u1 u2 eps) refl
      (subst (λ (b : Bool). sides_apart (sided b v1 v2) (sided (usual_line u1 u2 eps) u1 u2) eps ≡ true) hv h)
