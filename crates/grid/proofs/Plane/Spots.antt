-- Grid points on segments: an end lies on its segment; a segment's ends may be exchanged, and so may the axes; a segment without
-- length has one point; and a grid point on a segment's straight line lies on the segment exactly if it does so on the x axis.
use Rattle.std.specs.Prelude.{◌≡◌, refl, ◌↔◌, [], ◌∷◌, ℕ, ◌+◌, ◌-◌, ◌<◌, ℤ, pos, nat_abs, ◌+ℤ◌, ◌-ℤ◌, ◌*ℤ◌, ◌≤ℤ◌}
use Rattle.std.proofs.Common.{ap, subst, inl, inr, arith}
use Rattle.grid.specs.Promise.{Spot, Point, Along, OnSegment, Differ, Share, ShareMore}
use Rattle.grid.specs.Plane.Ring.{solve, combine, combine2, var, neg, num, ◌⊞◌, ◌⊟◌, ◌⊠◌}
use Rattle.grid.specs.Plane.Order.{cancel, pos-le, natural, turned, turned-eq, size-pos}
use Rattle.grid.proofs.Plane.Sides.{way, cross}
use Rattle.grid.proofs.Plane.Cross.{Between, between}

pub one-pos : 0 < 1
one-pos = omega arith

-- a grid point among all points
abbrev pub spot : Spot → Point
spot p = record { x = p.x; y = p.y; over = 1; positive = one-pos }

-- ---- ends
at-start : (a b : ℤ) → a *ℤ pos 1 ≡ pos 1 *ℤ (a *ℤ pos 1 +ℤ (b -ℤ a) *ℤ pos 0)
at-start a b =
    solve (a ∷ b ∷ []) (var 0 ⊠ num 1) (num 1 ⊠ (var 0 ⊠ num 1 ⊞ (var 1 ⊟ var 0) ⊠ num 0)) tt

at-end : (a b : ℤ) → b *ℤ pos 1 ≡ pos 1 *ℤ (a *ℤ pos 1 +ℤ (b -ℤ a) *ℤ pos 1)
at-end a b =
    solve (a ∷ b ∷ []) (var 1 ⊠ num 1) (num 1 ⊠ (var 0 ⊠ num 1 ⊞ (var 1 ⊟ var 0) ⊠ num 1)) tt

pub start-on : (a b : Spot) → OnSegment (spot a) a b
start-on a b =
    (0, 1, omega arith, record { some = one-pos; at_x = at-start a.x b.x; at_y = at-start a.y b.y })

pub end_on : (a b : Spot) → OnSegment (spot b) a b
end_on a b =
    (1, 1, omega arith, record { some = one-pos; at_x = at-end a.x b.x; at_y = at-end a.y b.y })

-- ---- from the other end
other_way : (c a b q t s r : ℤ) → c *ℤ t ≡ q *ℤ (a *ℤ t +ℤ (b -ℤ a) *ℤ s) → t ≡ s +ℤ r
    → c *ℤ t ≡ q *ℤ (b *ℤ t +ℤ (a -ℤ b) *ℤ r)
other_way c a b q t s r h e =
    let C = var 0 in let A = var 1 in let B = var 2 in let Q = var 3 in let T' = var 4 in let S = var 5 in let R = var 6 in
    combine2 (c ∷ a ∷ b ∷ q ∷ t ∷ s ∷ r ∷ []) (C ⊠ T') (Q ⊠ (B ⊠ T' ⊞ (A ⊟ B) ⊠ R))
    (num 1) (C ⊠ T') (Q ⊠ (A ⊠ T' ⊞ (B ⊟ A) ⊠ S)) (neg (Q ⊠ (B ⊟ A))) T' (S ⊞ R) h e tt

pub along-back : (P : Point) (a b : Spot) (s r t : ℕ) → t ≡ s + r → Along P a b (pos s) t → Along P b a (pos r) t
along-back P a b s r t e h =
    let turn : (c x y : ℤ) → c *ℤ pos t ≡ pos P.over *ℤ (x *ℤ pos t +ℤ (y -ℤ x) *ℤ pos s)
    → c *ℤ pos t ≡ pos P.over *ℤ (y *ℤ pos t +ℤ (x -ℤ y) *ℤ pos r)
    = λ c x y k. other_way c x y (pos P.over) (pos t) (pos s) (pos r) k (ap pos e) in
    record { some = h.some; at_x = turn P.x a.x b.x h.at_x; at_y = turn P.y a.y b.y h.at_y }

pub reverse : (P : Point) (a b : Spot) → OnSegment P a b → OnSegment P b a
reverse P a b (s, t, l, h) = (t - s, t, omega arith, along-back P a b s (t - s) t (omega arith) h)

pub share-reversed : (v1 v2 u1 u2 : Spot) → Share v2 v1 u1 u2 → Share v1 v2 u1 u2
share-reversed v1 v2 u1 u2 (P, (p, q)) = (P, (reverse P v2 v1 p, q))

pub share-more-reversed : (v1 v2 u1 u2 : Spot) → ShareMore v2 v1 u1 u2 → ShareMore v1 v2 u1 u2
share-more-reversed v1 v2 u1 u2 (P, Q, differ, (p, p'), (q, q')) =
    (P, Q, differ, (reverse P v2 v1 p, p'), (reverse Q v2 v1 q, q'))

-- ---- u and v are exchanged
pub share-swapped : (v1 v2 u1 u2 : Spot) → Share v1 v2 u1 u2 ↔ Share u1 u2 v1 v2
share-swapped v1 v2 u1 u2 = (swap v1 v2 u1 u2, swap u1 u2 v1 v2)
  where
    swap : (a b c d : Spot) → Share a b c d → Share c d a b
    swap a b c d (P, (p, q)) = (P, (q, p))

pub share-more-swapped : (v1 v2 u1 u2 : Spot) → ShareMore v1 v2 u1 u2 ↔ ShareMore u1 u2 v1 v2
share-more-swapped v1 v2 u1 u2 = (swap v1 v2 u1 u2, swap u1 u2 v1 v2)
  where
    swap : (a b c d : Spot) → ShareMore a b c d → ShareMore c d a b
    swap a b c d (P, Q, differ, (p, p'), (q, q')) = (P, Q, differ, (p', p), (q', q))

-- ---- the axes are exchanged
abbrev pub flip : Spot → Spot
flip a = record { x = a.y; y = a.x }

abbrev pub flip-point : Point → Point
flip-point P = record { x = P.y; y = P.x; over = P.over; positive = P.positive }

flip-on : (P : Point) (a b : Spot) → OnSegment P a b → OnSegment (flip-point P) (flip a) (flip b)
flip-on P a b (s, t, l, h) = (s, t, l, record { some = h.some; at_x = h.at_y; at_y = h.at_x })

flip-differ : (P Q : Point) → Differ P Q → Differ (flip-point P) (flip-point Q)
flip-differ P Q (inl h) = inr h
flip-differ P Q (inr h) = inl h

pub share-flipped : (v1 v2 u1 u2 : Spot) → Share v1 v2 u1 u2 ↔ Share (flip v1) (flip v2) (flip u1) (flip u2)
share-flipped v1 v2 u1 u2 = (turn v1 v2 u1 u2, turn (flip v1) (flip v2) (flip u1) (flip u2))
  where
    turn : (a b c d : Spot) → Share a b c d → Share (flip a) (flip b) (flip c) (flip d)
    turn a b c d (P, (p, q)) = (flip-point P, (flip-on P a b p, flip-on P c d q))

pub share-more-flipped : (v1 v2 u1 u2 : Spot) → ShareMore v1 v2 u1 u2 ↔ ShareMore (flip v1) (flip v2) (flip u1) (flip u2)
share-more-flipped v1 v2 u1 u2 = (turn v1 v2 u1 u2, turn (flip v1) (flip v2) (flip u1) (flip u2))
  where
    turn : (a b c d : Spot) → ShareMore a b c d → ShareMore (flip a) (flip b) (flip c) (flip d)
    turn a b c d (P, Q, differ, (p, p'), (q, q')) = (
      flip-point P,
      flip-point Q,
      flip-differ P Q differ,
      (flip-on P a b p, flip-on P c d p'),
      (flip-on Q a b q, flip-on Q c d q'),
    )

-- ---- segments without length, and points that are grid points
abbrev pub Same : Spot → Spot → Type 0
Same a b = (a.x ≡ b.x) × (a.y ≡ b.y)

abbrev pub IsSpot : Point → Spot → Type 0
IsSpot P a = (P.x ≡ a.x *ℤ pos P.over) × (P.y ≡ a.y *ℤ pos P.over)

stays : (c a b s : ℤ) (q t : ℕ) → 0 < t → c *ℤ pos t ≡ pos q *ℤ (a *ℤ pos t +ℤ (b -ℤ a) *ℤ s) → a ≡ b → c ≡ a *ℤ pos q
stays c a b s q t H h e =
    let C = var 0 in let A = var 1 in let B = var 2 in let S = var 3 in let Q = var 4 in let T' = var 5 in
    cancel c (a *ℤ pos q) t H
    (combine2 (c ∷ a ∷ b ∷ s ∷ pos q ∷ pos t ∷ []) (C ⊠ T') (A ⊠ Q ⊠ T')
    (num 1) (C ⊠ T') (Q ⊠ (A ⊠ T' ⊞ (B ⊟ A) ⊠ S)) (neg (Q ⊠ S)) A B h e tt)

pub only-spot : (P : Point) (a b : Spot) → Same a b → OnSegment P a b → IsSpot P a
only-spot P a b (ex, ey) (s, t, l, h) = (
  stays P.x a.x b.x (pos s) P.over t h.some h.at_x ex,
  stays P.y a.y b.y (pos s) P.over t h.some h.at_y ey,
)

-- the same for points at an end
pub is-start : (P : Point) (a b : Spot) (t : ℕ) → Along P a b (pos 0) t → IsSpot P a
is-start P a b t h = (
  at_none P.x a.x b.x P.over t h.some h.at_x,
  at_none P.y a.y b.y P.over t h.some h.at_y,
)
  where
    at_none : (c a b : ℤ) (q t : ℕ) → 0 < t → c *ℤ pos t ≡ pos q *ℤ (a *ℤ pos t +ℤ (b -ℤ a) *ℤ pos 0) → c ≡ a *ℤ pos q
    at_none c a b q t H h =
        let C = var 0 in let A = var 1 in let B = var 2 in let Q = var 3 in let T' = var 4 in
        cancel c (a *ℤ pos q) t H
        (combine (c ∷ a ∷ b ∷ pos q ∷ pos t ∷ []) (C ⊠ T') (A ⊠ Q ⊠ T')
        (num 1) (C ⊠ T') (Q ⊠ (A ⊠ T' ⊞ (B ⊟ A) ⊠ num 0)) h tt)

pub is-end : (P : Point) (a b : Spot) (t : ℕ) → Along P a b (pos t) t → IsSpot P b
is-end P a b t h = is-start P b a t (along-back P a b t 0 t (omega arith) h)

lies : (c p a b s : ℤ) (q t : ℕ) → 0 < q → c *ℤ pos t ≡ pos q *ℤ (a *ℤ pos t +ℤ (b -ℤ a) *ℤ s) → c ≡ p *ℤ pos q
    → p *ℤ pos t ≡ pos 1 *ℤ (a *ℤ pos t +ℤ (b -ℤ a) *ℤ s)
lies c p a b s q t H h e =
    let C = var 0 in let P = var 1 in let A = var 2 in let B = var 3 in let S = var 4 in let Q = var 5 in let T' = var 6 in
    cancel (p *ℤ pos t) (pos 1 *ℤ (a *ℤ pos t +ℤ (b -ℤ a) *ℤ s)) q H
    (combine2 (c ∷ p ∷ a ∷ b ∷ s ∷ pos q ∷ pos t ∷ []) (P ⊠ T' ⊠ Q) (num 1 ⊠ (A ⊠ T' ⊞ (B ⊟ A) ⊠ S) ⊠ Q)
    (num 1) (C ⊠ T') (Q ⊠ (A ⊠ T' ⊞ (B ⊟ A) ⊠ S)) (neg T') C (P ⊠ Q) h e tt)

pub spot-lies : (P : Point) (p a b : Spot) → IsSpot P p → OnSegment P a b → OnSegment (spot p) a b
spot-lies P p a b (ex, ey) (s, t, l, h) = (
  s,
  t,
  l,
  record {
    some = h.some;
    at_x = lies P.x p.x a.x b.x (pos s) P.over t P.positive h.at_x ex;
    at_y = lies P.y p.y a.y b.y (pos s) P.over t P.positive h.at_y ey;
  },
)

-- a grid point does not differ from itself
same_spot : (c d a : ℤ) (p q : ℕ) → c ≡ a *ℤ pos p → d ≡ a *ℤ pos q → c *ℤ pos q ≡ d *ℤ pos p
same_spot c d a p q h k =
    let C = var 0 in let D = var 1 in let A = var 2 in let P = var 3 in let Q = var 4 in
    combine2 (c ∷ d ∷ a ∷ pos p ∷ pos q ∷ []) (C ⊠ Q) (D ⊠ P) Q C (A ⊠ P) (neg P) D (A ⊠ Q) h k tt

pub spot-once : (P Q : Point) (a : Spot) → IsSpot P a → IsSpot Q a → ¬ Differ P Q
spot-once P Q a h k (inl n) = n (same_spot P.x Q.x a.x P.over Q.over h.0 k.0)
spot-once P Q a h k (inr n) = n (same_spot P.y Q.y a.y P.over Q.over h.1 k.1)

-- ---- a grid point p and a segment from a to b that is not upright: on its straight line, and on the x axis 0 to 1 of the way
pub record Level (a b p : Spot) : Type 0 where
  pub on_line : cross (way a b) (way a p) ≡ pos 0
  pub on-axis : Between (turned (b.x -ℤ a.x) (p.x -ℤ a.x)) (nat_abs (b.x -ℤ a.x))

placed : (p a w m k : ℤ) → (p -ℤ a) *ℤ k ≡ m *ℤ w → p *ℤ k ≡ pos 1 *ℤ (a *ℤ k +ℤ w *ℤ m)
placed p a w m k h =
    let P = var 0 in let A = var 1 in let W = var 2 in let M = var 3 in let K = var 4 in
    combine (p ∷ a ∷ w ∷ m ∷ k ∷ []) (P ⊠ K) (num 1 ⊠ (A ⊠ K ⊞ W ⊠ M)) (num 1) ((P ⊟ A) ⊠ K) (M ⊠ W) h tt

pub level-on : (a b p : Spot) → ((b.x -ℤ a.x) ≡ pos 0 → ⊥) → Level a b p → OnSegment (spot p) a b
level-on a b p n h =
    let d = b.x -ℤ a.x in
    let e = b.y -ℤ a.y in
    let x = p.x -ℤ a.x in
    let y = p.y -ℤ a.y in
    let m = turned d x in
    let k = nat_abs d in
    let main : x *ℤ pos k ≡ m *ℤ d = turned-eq d x x d refl in
    let other : y *ℤ pos k ≡ m *ℤ e = turned-eq d x y e (crossed d e x y h.on_line) in
    let c = natural m h.on-axis.0 in
    let along : Along (spot p) a b m k
    = record {
      some = size-pos d n;
      at_x = placed p.x a.x d m (pos k) main;
      at_y = placed p.y a.y e m (pos k) other;
    } in (
      c.0,
      k,
      (pos-le c.0 k).0 (subst (λ (z : ℤ). z ≤ℤ pos k) c.1 h.on-axis.1),
      subst (λ (z : ℤ). Along (spot p) a b z k) c.1 along,
    )
  where
    crossed : (d e x y : ℤ) → d *ℤ y -ℤ e *ℤ x ≡ pos 0 → y *ℤ d ≡ x *ℤ e
    crossed d e x y h =
        let D = var 0 in let E = var 1 in let X = var 2 in let Y = var 3 in
        combine (d ∷ e ∷ x ∷ y ∷ []) (Y ⊠ D) (X ⊠ E) (num 1) (D ⊠ Y ⊟ E ⊠ X) (num 0) h tt

pub on-level : (a b p : Spot) → OnSegment (spot p) a b → Level a b p
on-level a b p (s, t, l, h) =
    let x = from p.x a.x (b.x -ℤ a.x) (pos s) (pos t) h.at_x in
    let y = from p.y a.y (b.y -ℤ a.y) (pos s) (pos t) h.at_y in
    record {
      on_line = cancel (cross (way a b) (way a p)) (pos 0) t h.some
          (crossed (b.x -ℤ a.x) (b.y -ℤ a.y) (p.x -ℤ a.x) (p.y -ℤ a.y) (pos s) (pos t) x y);
      on-axis = between (turned (b.x -ℤ a.x) (p.x -ℤ a.x)) (nat_abs (b.x -ℤ a.x)) s t h.some l
          (turned-eq (b.x -ℤ a.x) (p.x -ℤ a.x) (pos s) (pos t) x);
    }
  where
    from : (p a w s t : ℤ) → p *ℤ t ≡ pos 1 *ℤ (a *ℤ t +ℤ w *ℤ s) → s *ℤ w ≡ (p -ℤ a) *ℤ t
    from p a w s t h =
        let P = var 0 in let A = var 1 in let W = var 2 in let S = var 3 in let T' = var 4 in
        combine (p ∷ a ∷ w ∷ s ∷ t ∷ []) (S ⊠ W) ((P ⊟ A) ⊠ T') (neg (num 1)) (P ⊠ T') (num 1 ⊠ (A ⊠ T' ⊞ W ⊠ S)) h tt

    crossed : (d e x y s t : ℤ) → s *ℤ d ≡ x *ℤ t → s *ℤ e ≡ y *ℤ t → (d *ℤ y -ℤ e *ℤ x) *ℤ t ≡ pos 0 *ℤ t
    crossed d e x y s t h k =
        let D = var 0 in let E = var 1 in let X = var 2 in let Y = var 3 in let S = var 4 in let T' = var 5 in
        combine2 (d ∷ e ∷ x ∷ y ∷ s ∷ t ∷ []) ((D ⊠ Y ⊟ E ⊠ X) ⊠ T') (num 0 ⊠ T')
        E (S ⊠ D) (X ⊠ T') (neg D) (S ⊠ E) (Y ⊠ T') h k tt
