-- Two segments on one straight line, measured on u along the x axis, if u is not upright (else the axes are exchanged): they
-- share a point exactly if the spans do, and more than one exactly if the spans do. What they share is found at their ends.
use Rattle.std.specs.Prelude.{◌≡◌, refl, ◌⊎◌, ◌↔◌, [], ◌∷◌, ℕ, ◌<◌, ℤ, pos, negsuc, neg_ℤ, nat_abs, ◌-ℤ◌, ◌*ℤ◌, ◌≤ℤ◌, ◌<ℤ◌}
use Rattle.std.proofs.Common.{sym, ap, subst, inl, inr, arith}
use Rattle.std.specs.Int.Signed.{clash_ℤ, ≤ℤ_refl, <ℤ-≤ℤ_trans}
use Rattle.grid.specs.Promise.{Spot, OnSegment, Shared, Share, ShareMore}
use Rattle.grid.specs.Plane.Whole.{whole, naturals}
use Rattle.grid.specs.Plane.Ring.{solve, combine, combine2, equal-of-sub, var, num, neg, ◌⊟◌, ◌⊠◌}
use Rattle.grid.specs.Plane.Order.{
  cancel,
  cancel-any,
  lt_of_le_ne,
  turned_same,
  pos-le,
  turned,
  sign,
  Plain,
  Minus,
  inside,
  size-pos,
  lt-or-le,
  either,
  other,
}
use Rattle.grid.proofs.Plane.Sides.{way, cross, across, start-v, end-v, start-u, end-u, leg, wedge, corners}
use Rattle.grid.proofs.Plane.Cross.{Between}
use Rattle.grid.proofs.Plane.Points.{Collinear, swapped}
use Rattle.grid.proofs.Plane.Spots.{
  spot,
  one-pos,
  start-on,
  end_on,
  Same,
  level-on,
  spot-once,
  share-reversed,
  share-more-reversed,
}
use Rattle.grid.proofs.Plane.Spans.{
  SpansShare,
  SpansShareMore,
  size,
  mark,
  Seen,
  seen,
  not-past,
  not-before,
  past_end,
  before-start,
}

-- ---- if a point is shared, the spans share one
pub share-spans : (v1 v2 u1 u2 : Spot) → Share v1 v2 u1 u2 → SpansShare (mark u1 u2 v1) (mark u1 u2 v2) (size u1 u2)
share-spans v1 v2 u1 u2 (P, (p, q)) =
    let h = seen v1 v2 u1 u2 P p q in (
      not-past u1 u2 P (mark u1 u2 v1) (mark u1 u2 v2) (size u1 u2) h,
      not-before u1 u2 P (mark u1 u2 v1) (mark u1 u2 v2) (size u1 u2) h,
    )

pub share-spans-more : (v1 v2 u1 u2 : Spot) → 0 < size u1 u2 → ShareMore v1 v2 u1 u2
    → SpansShareMore (mark u1 u2 v1) (mark u1 u2 v2) (size u1 u2)
share-spans-more v1 v2 u1 u2 K (P, Q, differ, (p, p'), (q, q')) = (
  either (lt-or-le a (pos k)) (lt-or-le b (pos k))
      (λ l m. spot-once P Q u2 (past_end u1 u2 P a b k at-P K l m) (past_end u1 u2 Q a b k at-Q K l m) differ),
  either (lt-or-le (pos 0) a) (lt-or-le (pos 0) b)
      (λ l m. spot-once P Q u1 (before-start u1 u2 P a b k at-P K l m) (before-start u1 u2 Q a b k at-Q K l m) differ),
)
  where
    a : ℤ
    a = mark u1 u2 v1

    b : ℤ
    b = mark u1 u2 v2

    k : ℕ
    k = size u1 u2

    at-P : Seen u1 u2 P a b k
    at-P = seen v1 v2 u1 u2 P p p'

    at-Q : Seen u1 u2 Q a b k
    at-Q = seen v1 v2 u1 u2 Q q q'

-- ---- the ends of each lie on the other's straight line
second-on-u : (v1 v2 u1 u2 : Spot) → Collinear v1 v2 u1 u2 → cross (way u1 u2) (way u1 v2) ≡ pos 0
second-on-u v1 v2 u1 u2 c =
    combine2 (corners v1 v2 u1 u2 []) (wedge (leg start-u end-u) (leg start-u end-v)) (num 0)
    (num 1) (wedge (leg start-u end-u) (leg start-u start-v)) (num 0)
    (neg (num 1)) (wedge (leg start-v end-v) (leg start-u end-u)) (num 0) c.from-u c.parallel tt

-- ---- places of u's ends
mark-start : (u1 u2 : Spot) → mark u1 u2 u1 ≡ pos 0
mark-start u1 u2 = go (u2.x -ℤ u1.x) u1.x
  where
    go : (d a : ℤ) → turned d (a -ℤ a) ≡ pos 0
    go (pos k) a = solve (a ∷ []) (var 0 ⊟ var 0) (num 0) tt
    go (negsuc k) a = solve (a ∷ []) (neg (var 0 ⊟ var 0)) (num 0) tt

mark-end : (u1 u2 : Spot) → mark u1 u2 u2 ≡ pos (size u1 u2)
mark-end u1 u2 = go (u2.x -ℤ u1.x)
  where
    go : (d : ℤ) → turned d d ≡ pos (nat_abs d)
    go (pos k) = refl
    go (negsuc k) = refl

-- p lies after v's start on the axis, and not after its end
between_ends : (v1 v2 u1 u2 p : Spot) → mark u1 u2 v1 <ℤ mark u1 u2 p → mark u1 u2 p ≤ℤ mark u1 u2 v2
    → Between (mark v1 v2 p) (size v1 v2)
between_ends v1 v2 u1 u2 p h k = inside (v2.x -ℤ v1.x) (p.x -ℤ v1.x) (go (sign (u2.x -ℤ u1.x)))
  where
    up : (x x2 a b : ℤ) → (x -ℤ a) <ℤ (b -ℤ a) → (b -ℤ a) ≤ℤ (x2 -ℤ a) → (pos 0 ≤ℤ (b -ℤ x)) × ((b -ℤ x) ≤ℤ (x2 -ℤ x))
    up x x2 a b = rw (← whole x, ← whole x2, ← whole a, ← whole b) (simp naturals (omega arith))

    down : (x x2 a b : ℤ) → neg_ℤ (x -ℤ a) <ℤ neg_ℤ (b -ℤ a) → neg_ℤ (b -ℤ a) ≤ℤ neg_ℤ (x2 -ℤ a)
        → ((x2 -ℤ x) ≤ℤ (b -ℤ x)) × ((b -ℤ x) ≤ℤ pos 0)
    down x x2 a b = rw (← whole x, ← whole x2, ← whole a, ← whole b) (simp naturals (omega arith))

    after : (m n : ℤ) → mark u1 u2 v1 ≡ m → mark u1 u2 p ≡ n → m <ℤ n
    after m n e f = rw (← e, ← f) h

    not_after : (m n : ℤ) → mark u1 u2 p ≡ m → mark u1 u2 v2 ≡ n → m ≤ℤ n
    not_after m n e f = rw (← e, ← f) k

    go : Plain (u2.x -ℤ u1.x) ⊎ Minus (u2.x -ℤ u1.x)
        → ((pos 0 ≤ℤ (p.x -ℤ v1.x)) × ((p.x -ℤ v1.x) ≤ℤ (v2.x -ℤ v1.x)))
        ⊎ (((v2.x -ℤ v1.x) ≤ℤ (p.x -ℤ v1.x)) × ((p.x -ℤ v1.x) ≤ℤ pos 0))
    go (inl e) =
        inl (up v1.x v2.x u1.x p.x (after _ _ (e.turn _) (e.turn _)) (not_after _ _ (e.turn _) (e.turn _)))
    go (inr e) =
        inr (down v1.x v2.x u1.x p.x (after _ _ (e.turn _) (e.turn _)) (not_after _ _ (e.turn _) (e.turn _)))

-- ---- if the spans share a point, the segments do
-- before 0, from 0 to k, or past k
abbrev Where : ℤ → ℕ → Type 0
Where m k = (m <ℤ pos 0) ⊎ Between m k ⊎ (pos k <ℤ m)

where-is : (m : ℤ) (k : ℕ) → Where m k
where-is m k = go (lt-or-le m (pos 0)) (lt-or-le (pos k) m)
  where
    go : (m <ℤ pos 0) ⊎ (pos 0 ≤ℤ m) → (pos k <ℤ m) ⊎ (m ≤ℤ pos k) → Where m k
    go (inl l) h = inl l
    go (inr l) (inl h) = inr (inr h)
    go (inr l) (inr h) = inr (inl (l, h))

le_of_lt : (a b : ℤ) → a <ℤ b → a ≤ℤ b
le_of_lt a b = rw (← whole a, ← whole b) (simp naturals (omega arith))

lt_trans_le : (a b c : ℤ) → a ≤ℤ b → b <ℤ c → a <ℤ c
lt_trans_le a b c = rw (← whole a, ← whole b, ← whole c) (simp naturals (omega arith))

lt-le : (a b c : ℤ) → a <ℤ b → b ≤ℤ c → a <ℤ c
lt-le a b c h k = <ℤ-≤ℤ_trans h k

past-zero : (k : ℕ) (m : ℤ) → pos k <ℤ m → pos 0 <ℤ m
past-zero k m h = lt_trans_le (pos 0) (pos k) m ((pos-le 0 k).1 (omega arith)) h

lt_trans : (a b c : ℤ) → a <ℤ b → b <ℤ c → a <ℤ c
lt_trans a b c = rw (← whole a, ← whole b, ← whole c) (simp naturals (omega arith))

-- two grid points with places in this order differ on the axis
pub marks-differ : (u1 u2 p q : Spot) → mark u1 u2 p <ℤ mark u1 u2 q → p.x ≡ q.x → ⊥
marks-differ u1 u2 p q l e =
    clash_ℤ l (le_of_eq (ap (λ (z : ℤ). turned (u2.x -ℤ u1.x) (z -ℤ u1.x)) e))
  where
    le_of_eq : {a b : ℤ} → a ≡ b → b ≤ℤ a
    le_of_eq {a} {b} e = subst (λ (z : ℤ). z ≤ℤ a) e (≤ℤ_refl a)

not-zero : (x y : ℤ) → (x ≡ y → ⊥) → (y -ℤ x) ≡ pos 0 → ⊥
not-zero x y n h = n (sym (equal-of-sub y x h))

module _ (v1 v2 u1 u2 : Spot) (c : Collinear v1 v2 u1 u2) (slant : (u2.x -ℤ u1.x) ≡ pos 0 → ⊥) where
  -- an end of v on u
  first-end : Between (mark u1 u2 v1) (size u1 u2) → Shared v1 v2 u1 u2 (spot v1)
  first-end h = (start-on v1 v2, level-on u1 u2 v1 slant (record { on_line = c.from-u; on-axis = h }))

  last_end : Between (mark u1 u2 v2) (size u1 u2) → Shared v1 v2 u1 u2 (spot v2)
  last_end h =
      (end_on v1 v2, level-on u1 u2 v2 slant (record { on_line = second-on-u v1 v2 u1 u2 c; on-axis = h }))

  -- a point of u on v
  inner : (p : Spot) → OnSegment (spot p) u1 u2 → cross (way v1 v2) (way v1 p) ≡ pos 0
      → mark u1 u2 v1 <ℤ mark u1 u2 p
      → mark u1 u2 p ≤ℤ mark u1 u2 v2
      → Shared v1 v2 u1 u2 (spot p)
  inner p on line l h =
      let long = marks-differ u1 u2 v1 v2 (lt-le (mark u1 u2 v1) (mark u1 u2 p) (mark u1 u2 v2) l h) in
      (level-on v1 v2 p (not-zero v1.x v2.x long) (record { on_line = line; on-axis = between_ends v1 v2 u1 u2 p l h }), on)

  u-start : mark u1 u2 v1 <ℤ pos 0 → pos 0 ≤ℤ mark u1 u2 v2 → Shared v1 v2 u1 u2 (spot u1)
  u-start l h =
      inner u1 (start-on u1 u2) (swapped v1 v2 u1 u2 c).from-u (rw (mark-start u1 u2) l) (rw (mark-start u1 u2) h)

  u-end : mark u1 u2 v1 <ℤ pos (size u1 u2) → pos (size u1 u2) ≤ℤ mark u1 u2 v2 → Shared v1 v2 u1 u2 (spot u2)
  u-end l h =
      inner u2 (end_on u1 u2) (second-on-u u1 u2 v1 v2 (swapped v1 v2 u1 u2 c)) (rw (mark-end u1 u2) l) (rw (mark-end u1 u2) h)

-- the same with v's ends in the other order
reversed : (v1 v2 u1 u2 : Spot) → Collinear v1 v2 u1 u2 → Collinear v2 v1 u1 u2
reversed v1 v2 u1 u2 c =
    record {
      parallel = combine (corners v1 v2 u1 u2 []) (wedge (leg end-v start-v) (leg start-u end-u)) (num 0)
          (neg (num 1)) (wedge (leg start-v end-v) (leg start-u end-u)) (num 0) c.parallel tt;
      from-u = second-on-u v1 v2 u1 u2 c;
      from-v = combine (corners v1 v2 u1 u2 []) (wedge (leg end-v start-v) (leg start-u end-v)) (num 0)
          (neg (num 1)) (wedge (leg start-v end-v) (leg start-u start-v)) (num 0) c.from-v tt;
    }

pub spans-share : (v1 v2 u1 u2 : Spot) → Collinear v1 v2 u1 u2 → ((u2.x -ℤ u1.x) ≡ pos 0 → ⊥)
    → SpansShare (mark u1 u2 v1) (mark u1 u2 v2) (size u1 u2)
    → Share v1 v2 u1 u2
spans-share v1 v2 u1 u2 c slant (lo, hi) =
    go (where-is (mark u1 u2 v1) (size u1 u2)) (where-is (mark u1 u2 v2) (size u1 u2)) lo hi
  where
    go : Where (mark u1 u2 v1) (size u1 u2)
        → Where (mark u1 u2 v2) (size u1 u2)
        → (mark u1 u2 v1 ≤ℤ pos (size u1 u2)) ⊎ (mark u1 u2 v2 ≤ℤ pos (size u1 u2))
        → (pos 0 ≤ℤ mark u1 u2 v1) ⊎ (pos 0 ≤ℤ mark u1 u2 v2)
        → Share v1 v2 u1 u2
    go (inr (inl h)) w lo hi = (spot v1, first-end v1 v2 u1 u2 c slant h)
    go (inl l) (inr (inl h)) lo hi = (spot v2, last_end v1 v2 u1 u2 c slant h)
    go (inr (inr g)) (inr (inl h)) lo hi = (spot v2, last_end v1 v2 u1 u2 c slant h)
    go (inl l) (inl m) lo (inl h) = clash_ℤ l h
    go (inl l) (inl m) lo (inr h) = clash_ℤ m h
    go (inr (inr g)) (inr (inr h)) (inl k) hi = clash_ℤ g k
    go (inr (inr g)) (inr (inr h)) (inr k) hi = clash_ℤ h k
    go (inl l) (inr (inr h)) lo hi =
        (spot u1, u-start v1 v2 u1 u2 c slant l (le_of_lt (pos 0) (mark u1 u2 v2) (past-zero (size u1 u2) (mark u1 u2 v2) h)))
    go (inr (inr g)) (inl m) lo hi =
        share-reversed v1 v2 u1 u2 (
          spot u1,
          u-start v2 v1 u1 u2 (reversed v1 v2 u1 u2 c) slant m
              (le_of_lt (pos 0) (mark u1 u2 v1) (past-zero (size u1 u2) (mark u1 u2 v1) g)),
        )

-- ---- and more than one
pos-lt : (k : ℕ) → 0 < k → pos 0 <ℤ pos k
pos-lt k h = simp naturals (omega arith)

-- two shared grid points in this order on the axis are two
two-shared : (v1 v2 u1 u2 p q : Spot) → Shared v1 v2 u1 u2 (spot p) → Shared v1 v2 u1 u2 (spot q)
    → mark u1 u2 p <ℤ mark u1 u2 q
    → ShareMore v1 v2 u1 u2
two-shared v1 v2 u1 u2 p q h k l =
    (spot p, spot q, inl (λ e. marks-differ u1 u2 p q l (cancel p.x q.x 1 one-pos e)), h, k)

module _ (v1 v2 u1 u2 : Spot) (c : Collinear v1 v2 u1 u2) (slant : (u2.x -ℤ u1.x) ≡ pos 0 → ⊥)
    (rising : mark u1 u2 v1 <ℤ mark u1 u2 v2)
    (early : mark u1 u2 v1 <ℤ pos (size u1 u2))
    (late : pos 0 <ℤ mark u1 u2 v2) where
  -- the first shared point: v's start, or u's if v starts before it; it comes before v's end and before u's
  lower : (p : Spot) × Shared v1 v2 u1 u2 (spot p) × (mark u1 u2 p <ℤ mark u1 u2 v2) × (mark u1 u2 p <ℤ pos (size u1 u2))
  lower = go (lt-or-le (mark u1 u2 v1) (pos 0))
    where
      go : (mark u1 u2 v1 <ℤ pos 0) ⊎ (pos 0 ≤ℤ mark u1 u2 v1)
          → (p : Spot) × Shared v1 v2 u1 u2 (spot p) × (mark u1 u2 p <ℤ mark u1 u2 v2) × (mark u1 u2 p <ℤ pos (size u1 u2))
      go (inr h) = (v1, first-end v1 v2 u1 u2 c slant (h, le_of_lt (mark u1 u2 v1) (pos (size u1 u2)) early), rising, early)
      go (inl h) = (
        u1,
        u-start v1 v2 u1 u2 c slant h (le_of_lt (pos 0) (mark u1 u2 v2) late),
        subst (λ (z : ℤ). z <ℤ mark u1 u2 v2) (sym (mark-start u1 u2)) late,
        subst (λ (z : ℤ). z <ℤ pos (size u1 u2)) (sym (mark-start u1 u2)) (pos-lt (size u1 u2) (size-pos (u2.x -ℤ u1.x) slant)),
      )

  ordered : ShareMore v1 v2 u1 u2
  ordered = go (lt-or-le (pos (size u1 u2)) (mark u1 u2 v2))
    where
      go : (pos (size u1 u2) <ℤ mark u1 u2 v2) ⊎ (mark u1 u2 v2 ≤ℤ pos (size u1 u2)) → ShareMore v1 v2 u1 u2
      go (inr h) =
          two-shared v1 v2 u1 u2 lower.0 v2 lower.1
          (last_end v1 v2 u1 u2 c slant (le_of_lt (pos 0) (mark u1 u2 v2) late, h)) lower.2
      go (inl h) =
          two-shared v1 v2 u1 u2 lower.0 u2 lower.1
          (u-end v1 v2 u1 u2 c slant early (le_of_lt (pos (size u1 u2)) (mark u1 u2 v2) h))
          (subst (λ (z : ℤ). mark u1 u2 lower.0 <ℤ z) (sym (mark-end u1 u2)) lower.3)

-- v has length, so its ends differ on u's axis
pub same-on-axis : (v1 v2 u1 u2 : Spot) → across v1 v2 u1 u2 ≡ pos 0 → ((u2.x -ℤ u1.x) ≡ pos 0 → ⊥) → v1.x ≡ v2.x
    → Same v1 v2
same-on-axis v1 v2 u1 u2 flat slant e =
    let none : (v1.y -ℤ v2.y) *ℤ (u2.x -ℤ u1.x) ≡ pos 0 *ℤ (u2.x -ℤ u1.x)
    = combine2 (corners v1 v2 u1 u2 []) ((leg end-v start-v).y ⊠ (leg start-u end-u).x) (num 0 ⊠ (leg start-u end-u).x)
    (num 1) (wedge (leg start-v end-v) (leg start-u end-u)) (num 0) (leg start-u end-u).y start-v.x end-v.x flat e tt in
    (e, equal-of-sub v1.y v2.y (cancel-any (v1.y -ℤ v2.y) (pos 0) (u2.x -ℤ u1.x) slant none))

-- one of the two is below k, or above 0
least-below : (a b k : ℤ) → a <ℤ b → (a <ℤ k) ⊎ (b <ℤ k) → a <ℤ k
least-below a b k l (inl m) = m
least-below a b k l (inr m) = lt_trans a b k l m

most-above : (a b k : ℤ) → a <ℤ b → (k <ℤ a) ⊎ (k <ℤ b) → k <ℤ b
most-above a b k l (inl m) = lt_trans k a b m l
most-above a b k l (inr m) = m

pub spans-share-more : (v1 v2 u1 u2 : Spot) → Collinear v1 v2 u1 u2 → ((u2.x -ℤ u1.x) ≡ pos 0 → ⊥) → ¬ Same v1 v2
    → SpansShareMore (mark u1 u2 v1) (mark u1 u2 v2) (size u1 u2)
    → ShareMore v1 v2 u1 u2
spans-share-more v1 v2 u1 u2 c slant long (lo, hi) =
    go (lt-or-le a b) lo hi
  where
    a : ℤ
    a = mark u1 u2 v1

    b : ℤ
    b = mark u1 u2 v2

    k : ℤ
    k = pos (size u1 u2)

    same : a ≡ b → ⊥
    same e = long (same-on-axis v1 v2 u1 u2 c.parallel slant (turned_same (u2.x -ℤ u1.x) v1.x v2.x u1.x e))

    go : (a <ℤ b) ⊎ (b ≤ℤ a) → (a <ℤ k) ⊎ (b <ℤ k) → (pos 0 <ℤ a) ⊎ (pos 0 <ℤ b) → ShareMore v1 v2 u1 u2
    go (inl l) m n = ordered v1 v2 u1 u2 c slant l (least-below a b k l m) (most-above a b (pos 0) l n)
    go (inr l) m n =
        let l' = lt_of_le_ne b a l (λ e. same (sym e)) in
        share-more-reversed v1 v2 u1 u2
        (ordered v2 v1 u1 u2 (reversed v1 v2 u1 u2 c) slant l' (least-below b a k l' (other m))
        (most-above b a (pos 0) l' (other n)))

-- ---- both directions
module _ (v1 v2 u1 u2 : Spot) (c : Collinear v1 v2 u1 u2) (slant : (u2.x -ℤ u1.x) ≡ pos 0 → ⊥) where
  pub overlap : Share v1 v2 u1 u2 ↔ SpansShare (mark u1 u2 v1) (mark u1 u2 v2) (size u1 u2)
  overlap = (share-spans v1 v2 u1 u2, spans-share v1 v2 u1 u2 c slant)

  pub overlap-more : ¬ Same v1 v2 → ShareMore v1 v2 u1 u2 ↔ SpansShareMore (mark u1 u2 v1) (mark u1 u2 v2) (size u1 u2)
  overlap-more long =
      (share-spans-more v1 v2 u1 u2 (size-pos (u2.x -ℤ u1.x) slant), spans-share-more v1 v2 u1 u2 c slant long)
