-- A root under way, in whole numbers: what holds before each turn, what a turn does, and what the last comparison says. N is
-- x * 2 ^ 52, and r are the digits of its root found so far. Twice what is left of N after r * r is rest * u. That is less than
-- twice what u more in the root would take: (r + u) * (r + u) - r * r is (2 * r + u) * u. A turn halves u.
use Rattle.std.specs.Prelude.{◌≡◌, ℕ, suc, ◌+◌, ◌-◌, ◌*◌, ◌/◌, ◌^◌, ◌<◌, ◌≤◌, Bool, true, false, cond, not, T, nat_le}
use Rattle.std.proofs.Common.{sym, ap, ◌∙◌, subst, zero-add, arith, leb→le}
use Rattle.std.proofs.Math.Nat.{pow-succ'}
use Rattle.std.proofs.Math.Dec.{nleb→lt}
use Rattle.floats.specs.F64.{isqrt}
use Rattle.floats.specs.Workings.Root
use Rattle.floats.specs.Laws.Isqrt.{IsRoot, isqrt-is, sq-lt}
use Rattle.floats.specs.declared.root.Turning.{Turning}

-- nothing wraps in a turn but the difference that is tested
pub record Room (s : Turning) : Type 0 where
  pub rest-most : s.rest < 2 ^ 55
  pub step-most : s.step ≤ 2 ^ 54
  pub unit-most : s.unit ≤ s.step

-- What the digits to come stand for is below u. After the last turn u is 1, the unit 0 and the step 2 * r + 1: so these are
-- halves that are rounded.
pub record Under (x u : ℕ) (s : Turning) : Type 0 where
  pub r : ℕ
  pub total : 2 * (x * 2 ^ 52) ≡ 2 * (r * r) + s.rest * u
  pub step_is : s.step ≡ 2 * r + (u + 1) / 2
  pub unit-is : s.unit ≡ u / 2
  pub less : s.rest < 2 * (2 * r + u)
  pub most : r + u ≤ 2 ^ 53

-- k turns to go
abbrev pub Turn : ℕ → ℕ → Turning → Type 0
Turn x k s = Under x (2 ^ k) s

-- the root of some number is under way, with at least so many turns to go
abbrev pub Going : ℕ → Turning → Type 0
Going i s = (x : ℕ) × ((k : ℕ) × Turn x (i + k) s)

pub fits : {x u : ℕ} {s : Turning} → Under x u s → Room s
fits {x} {u} {s} t =
    record {
      rest-most = omega (arith, t.less, t.most);
      step-most = omega (arith, t.step_is, t.most);
      unit-most = omega (arith, t.step_is, t.unit-is);
    }

-- the first digit is 1
pub start : (x : ℕ) (s : Turning) → 2 ^ 52 ≤ x → x < 2 ^ 54 → s.rest ≡ 2 * (x - 2 ^ 52) → s.step ≡ 2 ^ 53 + 2 ^ 51
    → s.unit ≡ 2 ^ 51 → Turn x 52 s
start x s l h a b c =
    record {
      r = 2 ^ 52;
      total = omega arith;
      step_is = omega arith;
      unit-is = omega arith;
      less = omega arith;
      most = omega arith;
    }

-- ---- a turn
module _ (x h : ℕ) (s : Turning) (t : Under x (2 * h) s) where
  step : s.step ≡ 2 * t.r + h
  step = omega (arith, t.step_is)

  taken : s.step ≤ s.rest → let left = s.rest - s.step in
      Under x h (record { rest = left + left; step = s.step - s.unit / 2 + s.unit + s.unit; unit = s.unit / 2 })
  taken l =
      let left = s.rest - s.step in
      let back : s.rest ≡ left + (2 * t.r + h) = omega (arith, step) in
      let used : s.rest * (2 * h) ≡ (left + (2 * t.r + h)) * (2 * h) = ap (λ (z : ℕ). z * (2 * h)) back in
      record {
        r = t.r + h;
        total = omega (arith, t.total, used);
        step_is = omega (arith, step, t.unit-is);
        unit-is = omega (arith, t.unit-is);
        less = omega (arith, t.less, back);
        most = omega (arith, t.most);
      }

  passed : s.rest < s.step → Under x h (record { rest = s.rest + s.rest; step = s.step - s.unit / 2; unit = s.unit / 2 })
  passed l =
      record {
        r = t.r;
        total = omega (arith, t.total);
        step_is = omega (arith, step, t.unit-is);
        unit-is = omega (arith, t.unit-is);
        less = omega (arith, l, step);
        most = omega (arith, t.most);
      }

  pub turned : Under x h (Root.turn s)
  unfolding Root.turn
  turned = go (nat_le s.step s.rest) (leb→le s.step s.rest) (nleb→lt s.step s.rest)
    where
      go : (b : Bool) → (T b → s.step ≤ s.rest) → (T (not b) → s.rest < s.step)
          → let low = s.step - s.unit / 2 in let left = s.rest - s.step in
          Under x h (cond b (record { rest = left + left; step = low + s.unit + s.unit; unit = s.unit / 2 })
          (record { rest = s.rest + s.rest; step = low; unit = s.unit / 2 }))
      go true l m = taken (l tt)
      go false l m = passed (m tt)

next : (x i k : ℕ) (s : Turning) → Turn x (suc i + k) s → Turn x (i + k) (Root.turn s)
next x i k s t =
    let e : suc i + k ≡ suc (i + k) = omega arith in
    turned x (2 ^ (i + k)) s (subst (λ (u : ℕ). Under x u s) (ap (λ (z : ℕ). 2 ^ z) e ∙ pow-succ' 2 (i + k)) t)

four : (x k : ℕ) (s : Turning) → Turn x (4 + k) s → Turn x k (Root.four_turns s)
unfolding Root.four_turns
four x k s t =
    subst (λ (z : ℕ). Turn x z (Root.four_turns s)) (zero-add k)
    (next x 0 k _ (next x 1 k _ (next x 2 k _ (next x 3 k s t))))

-- the same for the answer of a function
pub after : (i : ℕ) (s r : Turning) → r ≡ Root.turn s → Going (suc i) s → Going i r
after i s r e g = (g.0, (g.1.0, subst (Turn g.0 (i + g.1.0)) (sym e) (next g.0 i g.1.0 s g.1.1)))

pub after-four : (x k : ℕ) (s r : Turning) → r ≡ Root.four_turns s → Turn x (4 + k) s → Turn x k r
after-four x k s r e t = subst (Turn x k) (sym e) (four x k s t)

-- ---- the end: u is 1, and q, the root with a digit more, tells on which side of the middle between r and r + 1 the root is
rounds : (x r d q : ℕ) → 2 * (x * 2 ^ 52) ≡ 2 * (r * r) + d * 1 → d < 2 * (2 * r + 1) → IsRoot (x * 2 ^ 54) q
    → (d ≤ 2 * r → r ≡ (q + 1) / 2) × (2 * r < d → r + 1 ≡ (q + 1) / 2)
rounds x r d q e l i =
    let low : 2 * r < q + 1 = sq-lt (2 * r) (q + 1) (omega (arith, i.high)) in
    let high : q < 2 * r + 2 = sq-lt q (2 * r + 2) (omega (arith, i.low)) in (
      λ (h : d ≤ 2 * r). let less : q < 2 * r + 1 = sq-lt q (2 * r + 1) (omega (arith, i.low)) in omega arith,
      λ (h : 2 * r < d). let more : 2 * r + 1 < q + 1 = sq-lt (2 * r + 1) (q + 1) (omega (arith, i.high)) in omega arith,
    )

module _ (x : ℕ) (s : Turning) (t : Turn x 0 s) where
  pub some : 1 ≤ s.step
  some = omega (arith, t.step_is)

  doubled : s.step - 1 ≡ 2 * t.r
  doubled = omega (arith, t.step_is)

  both : (s.rest ≤ 2 * t.r → t.r ≡ Root.rounded x) × (2 * t.r < s.rest → t.r + 1 ≡ Root.rounded x)
  unfolding Root.rounded Root.digits
  both = rounds x t.r s.rest (isqrt (x * 2 ^ 54)) t.total t.less (isqrt-is (x * 2 ^ 54))

  pub down : s.rest ≤ s.step - 1 → (s.step - 1) / 2 ≡ Root.rounded x
  down l =
      let half : (s.step - 1) / 2 ≡ t.r = omega (arith, doubled) in
      half ∙ both.0 (omega (arith, doubled))

  pub up : s.step - 1 < s.rest → (s.step - 1) / 2 + 1 ≡ Root.rounded x
  up l =
      let half : (s.step - 1) / 2 + 1 ≡ t.r + 1 = omega (arith, doubled) in
      half ∙ both.1 (omega (arith, doubled))
