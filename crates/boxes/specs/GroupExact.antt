-- The box of a group holds the extremes of its members' boxes exactly: each of its four numbers is that of some member, and no
-- member's number is beyond it. For f64 without NaN, infinity and -0 these two properties leave one box only, so the order in
-- which the members are joined is no matter.
use Rattle.checks.specs.Checked.{Checked}
use Rattle.std.specs.Prelude.{◌≡◌, refl, ◌⊎◌, Bool, true, false, cond, List, T, Float, Ok}
use Rattle.std.proofs.Common.{sym, inl, inr, eq-or-lt_of_le}
use Rattle.std.proofs.Math.Path.{subst}
use Prim.Native.Nat.{ℕ, zero, suc, ◌+◌, ◌-◌, ◌*◌, ◌≤◌, ◌<◌}
use native.Mathlib.Omega.{arith}
use Rattle.std.specs.Float.{binary64}
use Rattle.std.specs.Float.Ieee.{is_nan}
use Rattle.std.specs.Float.Ieee.Scale.{finite}
use Rattle.float_laws.specs.Chains.{le_refl, finite-real}
use Rattle.floats.specs.Ops.{◌≼◌}
use Rattle.floats.specs.F64.{min, max}
use Rattle.plane.specs.PlineVertex.{bulge_is_zero}
use Rattle.plane.specs.declared.pline_vertex.PlineVertex.{PlineVertex}
use Rattle.checks.specs.Limit
use Rattle.checks.specs.Each
use Rattle.checks.specs.Chord.{of-points}
use Rattle.checks.specs.Laws.Fine.{Between, to_number, epsilon-fine}
use Rattle.checks.specs.Laws.Chains.{PointFine}
use Rattle.paths.specs.Segments.{segment_count}
use Rattle.paths.specs.Check.{check_path}
use Rattle.paths.specs.Laws.Fine.{path-fine, segment-fine}
use Rattle.boxes.specs.declared.bounds.Box.{Box}
use Rattle.boxes.specs.Box.{margin, box_of, join}
use Rattle.boxes.specs.Groups.{segment_box, group_size, group_count, members_of, join_from, group_box}
use Rattle.boxes.specs.BoxNumbers.{Plain, PlainBox}
use Rattle.boxes.specs.Laws.Numbers.{add-real, sub-real, arc-outward, outward-finite}
use Rattle.boxes.specs.Laws.Extremes.{same-of-le, min-has, max-has, min-first, min-second, max-first, max-second}
use Rattle.boxes.specs.Workings.Stored.{same-box}

-- ---- what is said of a box

-- segment i is a member of group g of n segments: g * 16 <= i < g * 16 + 16, and i < n
abbrev pub Member : ℕ → ℕ → ℕ → Type 0
Member n g i = (g * group_size ≤ i) × (i < g * group_size + group_size) × (i < n)

abbrev pub AtMost : Float → Float → Type 0
AtMost x y = T (x ≼ y)

abbrev pub AtLeast : Float → Float → Type 0
AtLeast x y = T (y ≼ x)

-- x is exactly the number of some member, and it is at most (or at least) the number of each member
pub record Extreme (Is : Float → Float → Type 0) (Member : ℕ → Type 0) (number : ℕ → Float) (x : Float) : Type 0 where
  pub one : (i : ℕ) × Member i × (x ≡ number i)
  pub all : (i : ℕ) → Member i → Is x (number i)

pub record Exact (Member : ℕ → Type 0) (box : ℕ → Box) (b : Box) : Type 0 where
  pub least-x : Extreme AtMost Member (λ (i : ℕ). (box i).least_x) b.least_x
  pub least-y : Extreme AtMost Member (λ (i : ℕ). (box i).least_y) b.least_y
  pub greatest-x : Extreme AtLeast Member (λ (i : ℕ). (box i).greatest_x) b.greatest_x
  pub greatest-y : Extreme AtLeast Member (λ (i : ℕ). (box i).greatest_y) b.greatest_y

-- no number of a box is a NaN
pub record NoNan (b : Box) : Type 0 where
  pub least-x : is_nan b.least_x ≡ false
  pub least-y : is_nan b.least_y ≡ false
  pub greatest-x : is_nan b.greatest_x ≡ false
  pub greatest-y : is_nan b.greatest_y ≡ false

-- ---- the argument: what holds of the members from a to i - 1 holds of those from a to i, once i is joined
abbrev From : ℕ → ℕ → ℕ → Type 0
From a i j = (a ≤ j) × (j < i)

-- the same members, said in another way
other-words : {Is : Float → Float → Type 0} {M N : ℕ → Type 0} {number : ℕ → Float} {x : Float}
    → ((i : ℕ) → M i → N i) → ((i : ℕ) → N i → M i) → Extreme Is M number x
    → Extreme Is N number x
other-words to from h =
    record { one = (h.one.0, to _ h.one.1, h.one.2); all = λ i m. h.all i (from i m) }

-- `pick` is the minimum or the maximum
module _ (Is : Float → Float → Type 0) (pick : Float → Float → Float)
    (has : (P : Float → Type 0) (x y : Float) → P x → P y → P (pick x y))
    (first : (z x y : Float) → Is x z → Is (pick x y) z) (second : (z x y : Float) → Is y z → Is (pick x y) z)
    (same : (x : Float) → is_nan x ≡ false → Is x x) where
  next : (number : ℕ → Float) (x : Float) (a i : ℕ) → a ≤ i → is_nan (number i) ≡ false → Extreme Is (From a i) number x
      → Extreme Is (From a (suc i)) number (pick x (number i))
  next number x a i l real h =
      record {
        one = has (λ (z : Float). (j : ℕ) × From a (suc i) j × (z ≡ number j)) x (number i)
            (h.one.0, (h.one.1.0, omega (arith, h.one.1.1)), h.one.2) (i, (l, omega arith), refl);
        all = λ j m. go j m (eq-or-lt_of_le (under j i m.1));
      }
    where
      under : (j i : ℕ) → j < suc i → j ≤ i
      under j i h = omega arith

      go : (j : ℕ) → From a (suc i) j → (j ≡ i) ⊎ (j < i) → Is (pick x (number i)) (number j)
      go j m (inl e) =
          subst (λ (k : ℕ). Is (pick x (number i)) (number k)) (sym e) (second (number i) x (number i) (same (number i) real))
      go j m (inr k) = first (number j) x (number i) (h.all j (m.0, k))

least-next : (number : ℕ → Float) (x : Float) (a i : ℕ) → a ≤ i → is_nan (number i) ≡ false
    → Extreme AtMost (From a i) number x
    → Extreme AtMost (From a (suc i)) number (min x (number i))
least-next = next AtMost min min-has min-first min-second le_refl

greatest-next : (number : ℕ → Float) (x : Float) (a i : ℕ) → a ≤ i → is_nan (number i) ≡ false
    → Extreme AtLeast (From a i) number x
    → Extreme AtLeast (From a (suc i)) number (max x (number i))
greatest-next = next AtLeast max max-has max-first max-second le_refl

module _ (box : ℕ → Box) (a e : ℕ) (real : (j : ℕ) → From a e j → NoNan (box j)) where
  join-next : (b : Box) (i : ℕ) → a ≤ i → i < e → Exact (From a i) box b → Exact (From a (suc i)) box (join b (box i))
  unfolding join
  join-next b i l u h =
      record {
        least-x = least-next (λ (j : ℕ). (box j).least_x) b.least_x a i l (real i (l, u)).least-x h.least-x;
        least-y = least-next (λ (j : ℕ). (box j).least_y) b.least_y a i l (real i (l, u)).least-y h.least-y;
        greatest-x = greatest-next (λ (j : ℕ). (box j).greatest_x) b.greatest_x a i l (real i (l, u)).greatest-x
            h.greatest-x;
        greatest-y = greatest-next (λ (j : ℕ). (box j).greatest_y) b.greatest_y a i l (real i (l, u)).greatest-y
            h.greatest-y;
      }

  joined : (b : Box) (i count : ℕ) → a ≤ i → e ≡ i + count → Exact (From a i) box b
      → Exact (From a e) box (join_from box b i count)
  unfolding join_from
  joined b i zero l is h = subst (λ (k : ℕ). Exact (From a k) box b) (end i is) h
    where
      end : (i : ℕ) → e ≡ i + 0 → i ≡ e
      end i h = omega arith
  joined b i (suc count) l is h =
      joined (join b (box i)) (suc i) count (omega arith) (omega arith) (join-next b i l (omega arith) h)

-- the first member alone
alone : (box : ℕ → Box) (a : ℕ) → NoNan (box a) → Exact (From a (suc a)) box (box a)
alone box a real =
    record {
      least-x = first AtMost (λ (j : ℕ). (box j).least_x) (le_refl _ real.least-x);
      least-y = first AtMost (λ (j : ℕ). (box j).least_y) (le_refl _ real.least-y);
      greatest-x = first AtLeast (λ (j : ℕ). (box j).greatest_x) (le_refl _ real.greatest-x);
      greatest-y = first AtLeast (λ (j : ℕ). (box j).greatest_y) (le_refl _ real.greatest-y);
    }
  where
    only : (j : ℕ) → From a (suc a) j → a ≡ j
    only j m = omega (arith, m.0, m.1)

    first : (Is : Float → Float → Type 0) (number : ℕ → Float) → Is (number a) (number a)
        → Extreme Is (From a (suc a)) number (number a)
    first Is number h =
        record {
          one = (a, (omega arith, omega arith), refl);
          all = λ j m. subst (λ (k : ℕ). Is (number a) (number k)) (only j m) h;
        }

-- ---- the theorem
pub group-exact : (box : ℕ → Box) (n g : ℕ) → g < group_count n → ((i : ℕ) → Member n g i → NoNan (box i))
    → Exact (Member n g) box (group_box box n g)
unfolding group_box
group-exact box n g l real =
    let a = g * group_size in
    let count = members_of n g - 1 in
    let start = alone box a (real a (to a (omega arith, omega arith))) in
    let h = joined box a (suc a + count) (λ j m. real j (to j m)) (box a) (suc a) count (omega arith) refl start in
    record {
      least-x = other-words to from h.least-x;
      least-y = other-words to from h.least-y;
      greatest-x = other-words to from h.greatest-x;
      greatest-y = other-words to from h.greatest-y;
    }
  where
    to : (j : ℕ) → From (g * group_size) (suc (g * group_size) + (members_of n g - 1)) j → Member n g j
    to j m = (m.0, omega (arith, l, m.1), omega (arith, l, m.1))

    from : (j : ℕ) → Member n g j → From (g * group_size) (suc (g * group_size) + (members_of n g - 1)) j
    from j m = (m.0, omega (arith, l, m.0, m.1, m.2))

pub no_nan : (b : Box) → PlainBox b → NoNan b
no_nan b p =
    record {
      least-x = real _ p.least-x;
      least-y = real _ p.least-y;
      greatest-x = real _ p.greatest-x;
      greatest-y = real _ p.greatest-y;
    }
  where
    real : (x : Float) → Plain x → is_nan x ≡ false
    real x h = finite-real x (to_number x h.number)

-- ---- these properties leave one box, if the members' numbers are f64 without NaN, infinity and -0
plain-same : (x y : Float) → Plain x → Plain y → AtMost x y → AtMost y x → x ≡ y
plain-same x y p q h k =
    same-of-le binary64 x y p.f64 q.f64 (to_number x p.number) (to_number y q.number) p.not-minus-zero
    q.not-minus-zero h k

once : (Is : Float → Float → Type 0) → ((x y : Float) → Plain x → Plain y → Is x y → Is y x → x ≡ y)
    → (M : ℕ → Type 0) (number : ℕ → Float) → ((i : ℕ) → M i → Plain (number i))
    → (x y : Float) → Extreme Is M number x → Extreme Is M number y
    → x ≡ y
once Is same M number plain x y h k =
    let x-is = h.one.2 in
    let y-is = k.one.2 in
    same x y (subst Plain (sym x-is) (plain _ h.one.1)) (subst Plain (sym y-is) (plain _ k.one.1))
    (subst (Is x) (sym y-is) (h.all _ k.one.1))
    (subst (Is y) (sym x-is) (k.all _ h.one.1))

-- two boxes with these properties are the same
pub exact-once : (M : ℕ → Type 0) (box : ℕ → Box) → ((i : ℕ) → M i → PlainBox (box i))
    → (a b : Box) → Exact M box a → Exact M box b
    → a ≡ b
exact-once M box plain a b h k =
    same-box a b
    (once AtMost plain-same M (λ (i : ℕ). (box i).least_x) (λ i m. (plain i m).least-x) _ _ h.least-x k.least-x)
    (once AtMost plain-same M (λ (i : ℕ). (box i).least_y) (λ i m. (plain i m).least-y) _ _ h.least-y k.least-y)
    (once AtLeast (λ x y p q h k. plain-same x y p q k h) M (λ (i : ℕ). (box i).greatest_x) (λ i m. (plain i m).greatest-x) _ _
    h.greatest-x k.greatest-x)
    (once AtLeast (λ x y p q h k. plain-same x y p q k h) M (λ (i : ℕ). (box i).greatest_y) (λ i m. (plain i m).greatest-y) _ _
    h.greatest-y k.greatest-y)

-- so a box that has them is the group's, however it was made
pub group-box-only : (box : ℕ → Box) (n g : ℕ) → g < group_count n → ((i : ℕ) → Member n g i → PlainBox (box i))
    → (b : Box) → Exact (Member n g) box b
    → b ≡ group_box box n g
group-box-only box n g l plain b h =
    exact-once (Member n g) box plain b (group_box box n g) h (group-exact box n g l (λ i m. no_nan (box i) (plain i m)))

-- ---- a path: if its check found no fault, no number of its boxes is a NaN, so its groups' boxes are exact. Here the path's
-- numbers may be any, not only f64.
margin-finite : (v1 v2 : PlineVertex) (epsilon : Float) → PointFine v1.x v1.y → PointFine v2.x v2.y
    → Between Limit.epsilon_least Limit.epsilon_most epsilon
    → T (finite (margin v1 v2 epsilon))
unfolding margin
margin-finite v1 v2 epsilon p q b =
    go (bulge_is_zero v1) _ _ b.number (outward-finite _ (arc-outward _ epsilon (of-points v1 v2 p q) b))
  where
    go : (z : Bool) (x y : Float) → T (finite x) → T (finite y) → T (finite (cond z x y))
    go true x y s t = s
    go false x y s t = t

pub points-real : (v1 v2 : PlineVertex) (epsilon : Float) → PointFine v1.x v1.y → PointFine v2.x v2.y
    → Between Limit.epsilon_least Limit.epsilon_most epsilon
    → NoNan (box_of v1 v2 epsilon)
unfolding box_of
points-real v1 v2 epsilon p q b =
    let m = margin v1 v2 epsilon in
    let t = margin-finite v1 v2 epsilon p q b in
    record {
      least-x = sub-real _ m (min-has (λ (z : Float). T (finite z)) v1.x v2.x p.at_x.number q.at_x.number) t;
      least-y = sub-real _ m (min-has (λ (z : Float). T (finite z)) v1.y v2.y p.at_y.number q.at_y.number) t;
      greatest-x = add-real _ m (max-has (λ (z : Float). T (finite z)) v1.x v2.x p.at_x.number q.at_x.number) t;
      greatest-y = add-real _ m (max-has (λ (z : Float). T (finite z)) v1.y v2.y p.at_y.number q.at_y.number) t;
    }

module _ (f : Checked) (path : List Float) (closed : Bool) (owner : ℕ) (epsilon : Float)
    (checked : check_path f path closed owner ≡ Ok tt) (small : Each.epsilon epsilon ≡ Ok tt) where
  abbrev n : ℕ
  n = segment_count path closed

  pub segments-real : (i : ℕ) → i < n → NoNan (segment_box path epsilon i)
  unfolding segment_box
  segments-real i l =
      let s = segment-fine path closed ((path-fine f path closed owner).0 checked).1 i l in
      points-real _ _ epsilon s.start.point s.end.point ((epsilon-fine epsilon).0 small)

  pub path-groups-exact : (g : ℕ) → g < group_count n
      → Exact (Member n g) (segment_box path epsilon) (group_box (segment_box path epsilon) n g)
  path-groups-exact g l = group-exact (segment_box path epsilon) n g l (λ i m. segments-real i m.2)
