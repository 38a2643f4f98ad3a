-- Floats of the grid and whole numbers: the difference of naturals for a float at a grid point (Floats/*) is the whole number of
-- that point (Plane/*); the same for ways and products.
use Rattle.std.specs.Prelude.{◌≡◌, ◌↔◌, true, false, ℕ, ◌+◌, ◌-◌, ◌*◌, ◌≤◌, ◌<◌, ℤ, pos, negsuc, nat_abs, ◌-ℤ◌, ◌*ℤ◌, Float}
use Rattle.std.proofs.Common.{sym, ap, ◌∙◌, subst, inl, inr, arith}
use Rattle.std.specs.Float.{nan, inf, fin}
use Rattle.float_laws.specs.Signed.{Diff}
use Rattle.plane.specs.Vector2 as vector2
use Rattle.plane.specs.PlineVertex as vertex
use Rattle.plane.specs.declared.vector2.Vector2.{Vector2}
use Rattle.plane.specs.declared.pline_vertex.PlineVertex.{PlineVertex}
use Rattle.grid.specs.Promise.{Is, Epsilon, Spot, On}
use Rattle.grid.specs.Plane.Whole.{diff, parts, whole, naturals, gain, loss}
use Rattle.grid.specs.Plane.Order.{turned}
use Rattle.grid.proofs.Plane.Sides.{way, cross}
use Rattle.grid.proofs.Plane.Spots.{Same}
use Rattle.grid.proofs.Plane.Parts.{is-plus, is-minus, gain-loss, turned_up, turned_down}
use Rattle.grid.specs.Floats.Small.{Small, Vec, vec-sub, perp}
use Rattle.grid.specs.Floats.Zero.{Eps}
use Rattle.grid.specs.Floats.Length.{gap, IsZero}
use Rattle.grid.specs.Floats.Ratio.{Turned}

-- ---- values
pub is-diff : (x : Float) (p n c : ℕ) → Is x (diff p n) c ↔ Diff x p n c
is-diff nan p n c = (λ h. h, λ h. h)
is-diff (inf s) p n c = (λ h. h, λ h. h)
is-diff (fin false m e) p n c = is-plus m p n c e
is-diff (fin true m e) p n c = is-minus m p n c e

pub whole-diff : (x : Float) (z : ℤ) (c : ℕ) → Is x z c → Diff x (gain z) (loss z) c
whole-diff x z c h = (is-diff x (gain z) (loss z) c).0 (subst (λ (w : ℤ). Is x w c) (sym (whole z)) h)

small : (x : Float) (z : ℤ) → Is x z 1 → nat_abs z ≤ 1048576 → Small 20 x
small x z h l =
    let s = gain-loss z in
    record { p = gain z; n = loss z; is = whole-diff x z 1 h; p-le = omega arith; n-le = omega arith }

-- ---- a vector of floats, as differences, is a grid point or a way
pub record At (i : ℕ) (v : Vector2) (A : Vec i v) (p : Spot) : Type 0 where
  pub at_x : p.x ≡ diff A.x.p A.x.n
  pub at_y : p.y ≡ diff A.y.p A.y.n

pub vec : (v : PlineVertex) (p : Spot) → On v p → Vec 20 (vertex.pos v)
unfolding vertex.pos
vec v p (a, b, c, d) = record { x = small v.x p.x a b; y = small v.y p.y c d }

pub vec-at : (v : PlineVertex) (p : Spot) (h : On v p) → At 20 (vertex.pos v) (vec v p h) p
unfolding vertex.pos vec small
vec-at v p h = record { at_x = sym (whole p.x); at_y = sym (whole p.y) }

pub eps : (e : Float) (num den : ℕ) → Epsilon e num den → Eps e num den
eps e num den h =
    record {
      fit = h.some-f64;
      is = whole-diff e (pos num) den h.value;
      some = h.range.0;
      least = h.range.1;
      most = h.range.2;
    }

sub-diff : (x y : ℤ) (p n q m : ℕ) → x ≡ diff p n → y ≡ diff q m → x -ℤ y ≡ diff (p + m) (n + q)
sub-diff x y p n q m e f = rw (e, f) (simp naturals (omega arith))

pub way_at : (a b : Vector2) (A : Vec 20 a) (B : Vec 20 b) (p q : Spot) → At 20 a A p → At 20 b B q
    → At 21 (vector2.sub b a) (vec-sub b a B A) (way p q)
way_at a b A B p q h k =
    record {
      at_x = sub-diff q.x p.x B.x.p B.x.n A.x.p A.x.n k.at_x h.at_x;
      at_y = sub-diff q.y p.y B.y.p B.y.n A.y.p A.y.n k.at_y h.at_y;
    }

cross-diff : (x y x' y' : ℤ) (a b c d a' b' c' d' : ℕ) → x ≡ diff a b → y ≡ diff c d → x' ≡ diff a' b' → y' ≡ diff c' d'
    → x *ℤ y' -ℤ y *ℤ x' ≡ diff (a * c' + b * d' + (c * b' + d * a')) (a * d' + b * c' + (c * a' + d * b'))
cross-diff x y x' y' a b c d a' b' c' d' e f g h = rw (e, f, g, h) (simp naturals (omega arith))

pub cross_at : (v u : Vector2) (F : Vec 21 v) (U : Vec 21 u) (p q : Spot) → At 21 v F p → At 21 u U q
    → cross p q ≡ diff (perp v u F U).p (perp v u F U).n
cross_at v u F U p q h k =
    cross-diff p.x p.y q.x q.y F.x.p F.x.n F.y.p F.y.n U.x.p U.x.n U.y.p U.y.n
    h.at_x h.at_y k.at_x k.at_y

-- ---- 0, one point, and sizes
pub zero-at : (z : ℤ) (p n : ℕ) → z ≡ diff p n → (z ≡ pos 0) ↔ (p ≡ n)
zero-at z p n e = rw e (simp naturals (λ h. omega arith, λ h. omega arith))

pub point_at : (a b : Vector2) (A : Vec 20 a) (B : Vec 20 b) (p q : Spot) → At 20 a A p → At 20 b B q
    → IsZero (vector2.sub b a) (vec-sub b a B A) ↔ Same p q
point_at a b A B p q h k =
    let x = equal-at p.x q.x A.x.p A.x.n B.x.p B.x.n h.at_x k.at_x in
    let y = equal-at p.y q.y A.y.p A.y.n B.y.p B.y.n h.at_y k.at_y in
    (λ z. (x.0 z.0, y.0 z.1), λ z. (x.1 z.0, y.1 z.1))
  where
    equal-at : (x y : ℤ) (p n q m : ℕ) → x ≡ diff p n → y ≡ diff q m → (q + n ≡ m + p) ↔ (x ≡ y)
    equal-at x y p n q m e f = rw (e, f) (simp naturals (λ h. omega arith, λ h. omega arith))

pub size-gap : (z : ℤ) (p n : ℕ) → z ≡ diff p n → nat_abs z ≡ gap p n
size-gap z p n e = ap nat_abs e ∙ go (diff p n) (parts p n)
  where
    go : (z : ℤ) → p + loss z ≡ n + gain z → nat_abs z ≡ (p - n) + (n - p)
    go (pos k) h = omega arith
    go (negsuc k) h = omega arith

-- a place x / d along an axis
pub place_at : (d x : ℤ) (dp dn xp xn P N : ℕ) → d ≡ diff dp dn → x ≡ diff xp xn → 0 < gap dp dn → Turned P N xp xn dp dn
    → turned d x ≡ diff P N
place_at d x dp dn xp xn P N e f H t =
    ap (λ (z : ℤ). turned z x) e ∙ ap (λ (z : ℤ). turned (diff dp dn) z) f ∙ go t
  where
    go : Turned P N xp xn dp dn → turned (diff dp dn) (diff xp xn) ≡ diff P N
    go (inl (l, h, k)) = rw (h, k) (turned_up dp dn xp xn l)
    go (inr (l, h, k)) = rw (h, k) (turned_down dp dn xp xn (omega arith))
