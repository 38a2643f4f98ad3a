-- A box that meets one of several boxes meets their joined box, for all floats: a comparison with a NaN says no. So a box that
-- does not meet a group's box meets none of its members' boxes.
use Rattle.std.specs.Prelude.{◌≡◌, refl, Bool, true, false, ◌&&◌, ◌⊎◌}
use Rattle.std.proofs.Common.{sym, subst, inl, inr, arith, eq-or-lt_of_le}
use Prim.Native.Nat.{ℕ, zero, suc, ◌+◌, ◌-◌, ◌*◌, ◌≤◌, ◌<◌}
use Rattle.std.proofs.Math.Dec.{T}
use Rattle.floats.specs.Ops.{◌≼◌}
use Rattle.boxes.specs.declared.bounds.Box.{Box}
use Rattle.boxes.specs.Box.{meet, join}
use Rattle.boxes.specs.Groups.{group_size, members_of, join_from, group_box}
use Rattle.boxes.specs.Laws.Extremes.{min-first, min-second, max-first, max-second}

-- ---- four comparisons
four : (p q r s : Bool) → T ((p && q) && (r && s)) → T p × T q × T r × T s
four true true true true h = (tt, tt, tt, tt)
four true true true false h = absurd h
four true true false s h = absurd h
four true false r s h = absurd h
four false q r s h = absurd h

all-four : (p q r s : Bool) → T p → T q → T r → T s → T ((p && q) && (r && s))
all-four true true true true a b c d = tt
all-four true true true false a b c d = absurd d
all-four true true false s a b c d = absurd c
all-four true false r s a b c d = absurd b
all-four false q r s a b c d = absurd a

pub record Meeting (a b : Box) : Type 0 where
  pub left : T (a.least_x ≼ b.greatest_x)
  pub right : T (b.least_x ≼ a.greatest_x)
  pub below : T (a.least_y ≼ b.greatest_y)
  pub above : T (b.least_y ≼ a.greatest_y)

pub meeting : (a b : Box) → T (meet a b) → Meeting a b
unfolding meet
meeting a b h =
    let f = four (a.least_x ≼ b.greatest_x) (b.least_x ≼ a.greatest_x)
    (a.least_y ≼ b.greatest_y) (b.least_y ≼ a.greatest_y) h in
    record { left = f.0; right = f.1; below = f.2; above = f.3 }

pub they-meet : (a b : Box) → Meeting a b → T (meet a b)
unfolding meet
they-meet a b m =
    all-four (a.least_x ≼ b.greatest_x) (b.least_x ≼ a.greatest_x)
    (a.least_y ≼ b.greatest_y) (b.least_y ≼ a.greatest_y) m.left m.right m.below m.above

-- ---- two boxes joined
module _ (b a c : Box) where
  meets-first : T (meet b a) → T (meet b (join a c))
  unfolding join
  meets-first h =
      let m = meeting b a h in
      they-meet b (join a c) (record {
        left = max-first _ _ _ m.left;
        right = min-first _ _ _ m.right;
        below = max-first _ _ _ m.below;
        above = min-first _ _ _ m.above;
      })

  meets-second : T (meet b c) → T (meet b (join a c))
  unfolding join
  meets-second h =
      let m = meeting b c h in
      they-meet b (join a c) (record {
        left = max-second _ _ _ m.left;
        right = min-second _ _ _ m.right;
        below = max-second _ _ _ m.below;
        above = min-second _ _ _ m.above;
      })

-- ---- several
module _ (box : ℕ → Box) (b : Box) where
  from_start : (a : Box) (i count : ℕ) → T (meet b a) → T (meet b (join_from box a i count))
  unfolding join_from
  from_start a i zero h = h
  from_start a i (suc count) h = from_start (join a (box i)) (suc i) count (meets-first b a (box i) h)

  from_member : (a : Box) (i count k : ℕ) → i ≤ k → k < i + count → T (meet b (box k)) → T (meet b (join_from box a i count))
  unfolding join_from
  from_member a i zero k low high h = absurd (omega (arith, low, high))
  from_member a i (suc count) k low high h =
      go (eq-or-lt_of_le low) (λ l. from_member (join a (box i)) (suc i) count k l (omega (arith, high)) h)
    where
      go : (i ≡ k) ⊎ (i < k) → (i < k → T (meet b (join_from box (join a (box i)) (suc i) count)))
          → T (meet b (join_from box (join a (box i)) (suc i) count))
      go (inl e) later =
          from_start (join a (box i)) (suc i) count
          (meets-second b a (box i) (subst (λ (m : ℕ). T (meet b (box m))) (sym e) h))
      go (inr l) later = later l

  -- a box that meets a member's meets the group's
  pub group-meets : (n g k : ℕ) → g * group_size ≤ k → k < g * group_size + group_size → k < n → T (meet b (box k))
      → T (meet b (group_box box n g))
  unfolding group_box
  group-meets n g k low high inside h = go (eq-or-lt_of_le low)
    where
      go : (g * group_size ≡ k) ⊎ (g * group_size < k)
          → T (meet b (join_from box (box (g * group_size)) (suc (g * group_size)) (members_of n g - 1)))
      go (inl e) =
          from_start (box (g * group_size)) (suc (g * group_size)) (members_of n g - 1)
          (subst (λ (m : ℕ). T (meet b (box m))) (sym e) h)
      go (inr l) =
          from_member (box (g * group_size)) (suc (g * group_size)) (members_of n g - 1) k l (omega (arith, high, inside, l)) h

  -- so if the group's box does not meet it, no member's does
  pub group-apart : (n g k : ℕ) → meet b (group_box box n g) ≡ false
      → g * group_size ≤ k → k < g * group_size + group_size → k < n → meet b (box k) ≡ false
  group-apart n g k e low high inside = go (meet b (box k)) refl
    where
      go : (p : Bool) → meet b (box k) ≡ p → meet b (box k) ≡ false
      go false f = f
      go true f = absurd (subst T e (group-meets n g k low high inside (subst T (sym f) tt)))
