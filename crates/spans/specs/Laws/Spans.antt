-- What lies in a span lies, after an operation, in the span that the operation makes. A span whose two numbers are finite was made
-- of finite numbers: infinities and NaNs go on through sums, differences and products.
use Rattle.std.specs.Prelude.{◌≡◌, refl, ◌⊎◌, ℕ, ◌*◌, true, false, ◌&&◌, ◌||◌, eqb, Float}
use Rattle.std.proofs.Common.{ap, ◌∙◌, subst, mul_comm}
use Rattle.std.proofs.Math.Logic.{inl, inr}
use Rattle.std.proofs.Math.Bool.{Bool, cond}
use Rattle.std.specs.Bool.{beq}
use Rattle.std.proofs.Math.Dec.{T}
use Rattle.std.specs.Float.{nan, inf, fin, binary64}
use Rattle.std.specs.Float.Ieee.{neg, up, down, round, add, sub, mul, div, le, lt, eq, unlike}
use Rattle.std.specs.Float.Ieee.Bits.{is_false}
use Rattle.std.specs.Float.Ieee.Scale.{finite}
use Rattle.plane.specs.Fuzzy.{fuzzy_eq_eps}
use Rattle.plane.specs.Laws.Near.{abs-below}
use Rattle.float_laws.specs.Tests.{either, left-of}
use Rattle.float_laws.specs.Binary64.{zero-finite}
use Rattle.float_laws.specs.Chains.{le_trans, lt-le, le_not_lt, between-finite, not-below, le-numbers, finite-real}
use Rattle.floats.specs.Ops.{◌⊕◌, ◌⊖◌, ◌⊗◌, ◌⊘◌, ◌≼◌, ◌≺◌, ◌≽◌, f0}
use Rattle.spans.specs.declared.span.Span.{Span}
use Rattle.spans.specs.Workings.Span.{
  lower,
  upper,
  between,
  plus,
  less,
  minus,
  sum,
  difference,
  times,
  over,
  under,
  ratio,
  square,
  apart,
}
use Rattle.spans.specs.Laws.Monotone.{
  add-mono,
  add_turned,
  sub-mono,
  sub-turn,
  mul-keep,
  mul-turn,
  div-keep,
  div-turn,
  square-keep,
  square-turn,
  under-keep,
  under-turn,
}

pub record In (x : Float) (s : Span) : Type 0 where
  pub least : T (s.least ≼ x)
  pub most : T (x ≼ s.most)

pub record Sound (s : Span) : Type 0 where
  pub least : T (finite s.least)
  pub most : T (finite s.most)

pub in-finite : (x : Float) (s : Span) → Sound s → In x s → T (finite x)
in-finite x s f i = between-finite s.least x s.most f.least f.most i.least i.most

-- ---- a finite result has finite operands
cond-finite : (b : Bool) (s : Bool) → T (finite (cond b nan (inf s))) → ⊥
cond-finite true s h = h
cond-finite false s h = h

cond-finite' : (b : Bool) (s : Bool) → T (finite (cond b (inf s) nan)) → ⊥
cond-finite' true s h = h
cond-finite' false s h = h

pub finite-add : (x y : Float) → T (finite (x ⊕ y)) → T (finite x) × T (finite y)
unfolding add
finite-add nan y h = absurd h
finite-add (inf s) nan h = absurd h
finite-add (inf s) (inf t) h = absurd (cond-finite' (beq s t) s h)
finite-add (inf s) (fin t n d) h = absurd h
finite-add (fin s m e) nan h = absurd h
finite-add (fin s m e) (inf t) h = absurd h
finite-add (fin s m e) (fin t n d) h = (tt, tt)

finite-neg : (x : Float) → T (finite (neg x)) → T (finite x)
unfolding neg
finite-neg nan h = absurd h
finite-neg (inf s) h = absurd h
finite-neg (fin s m e) h = tt

pub finite-sub : (x y : Float) → T (finite (x ⊖ y)) → T (finite x) × T (finite y)
unfolding sub
finite-sub x y h = let a = finite-add x (neg y) h in (a.0, finite-neg y a.1)

pub finite-mul : (x y : Float) → T (finite (x ⊗ y)) → T (finite x) × T (finite y)
unfolding mul
finite-mul nan y h = absurd h
finite-mul (inf s) nan h = absurd h
finite-mul (inf s) (inf t) h = absurd h
finite-mul (inf s) (fin t n d) h = absurd (cond-finite (eqb n 0) (unlike s t) h)
finite-mul (fin s m e) nan h = absurd h
finite-mul (fin s m e) (inf t) h = absurd (cond-finite (eqb m 0) (unlike s t) h)
finite-mul (fin s m e) (fin t n d) h = (tt, tt)

-- of a quotient: the dividend
pub finite-div : (x y : Float) → T (finite (x ⊘ y)) → T (finite x)
unfolding div
finite-div nan y h = absurd h
finite-div (inf s) nan h = absurd h
finite-div (inf s) (inf t) h = absurd h
finite-div (inf s) (fin t n d) h = absurd h
finite-div (fin s m e) y h = tt

-- ---- so a sound span was made of sound ones
between-sound : (a b : Float) → Sound (between a b) → T (finite a) × T (finite b)
unfolding between lower upper
between-sound a b h = go (a ≺ b) h.least h.most
  where
    go : (t : Bool) → T (finite (cond t a b)) → T (finite (cond t b a)) → T (finite a) × T (finite b)
    go true l m = (l, m)
    go false l m = (m, l)

pub record Made (c : Float) (s : Span) : Type 0 where
  pub fixed : T (finite c)
  pub sound : Sound s

pub plus-sound : (c : Float) (s : Span) → Sound (plus c s) → Made c s
unfolding plus
plus-sound c s h =
    let a = finite-add c s.least h.least in
    let b = finite-add c s.most h.most in
    record { fixed = a.0; sound = record { least = a.1; most = b.1 } }

pub less-sound : (c : Float) (s : Span) → Sound (less c s) → Made c s
unfolding less
less-sound c s h =
    let a = finite-sub c s.most h.least in
    let b = finite-sub c s.least h.most in
    record { fixed = a.0; sound = record { least = b.1; most = a.1 } }

pub minus-sound : (s : Span) (c : Float) → Sound (minus s c) → Made c s
unfolding minus
minus-sound s c h =
    let a = finite-sub s.least c h.least in
    let b = finite-sub s.most c h.most in
    record { fixed = a.1; sound = record { least = a.0; most = b.0 } }

pub difference-sound : (s t : Span) → Sound (difference s t) → Sound s × Sound t
unfolding difference
difference-sound s t h =
    let a = finite-sub s.least t.most h.least in
    let b = finite-sub s.most t.least h.most in
    (record { least = a.0; most = b.0 }, record { least = b.1; most = a.1 })

pub times-sound : (c : Float) (s : Span) → Sound (times c s) → Made c s
unfolding times
times-sound c s h =
    let f = between-sound (c ⊗ s.least) (c ⊗ s.most) h in
    let a = finite-mul c s.least f.0 in
    let b = finite-mul c s.most f.1 in
    record { fixed = a.0; sound = record { least = a.1; most = b.1 } }

pub over-sound : (s : Span) (c : Float) → Sound (over s c) → Sound s
unfolding over
over-sound s c h =
    let f = between-sound (s.least ⊘ c) (s.most ⊘ c) h in
    record { least = finite-div s.least c f.0; most = finite-div s.most c f.1 }

-- ---- and what lay in these lies in it

pub weak : (x y : Float) → T (x ≺ y) → T (x ≼ y)
unfolding le
weak x y h = left-of (lt x y) (eq x y) h

-- a finite float is on one side of zero, or both
pub sides : (c : Float) → T (finite c) → T (f0 ≼ c) ⊎ T (c ≼ f0)
sides c h = go (c ≺ f0) (not-below f0 c (finite-real f0 zero-finite) (finite-real c h)) (weak c f0)
  where
    go : (t : Bool) → (t ≡ false → T (f0 ≼ c)) → (T t → T (c ≼ f0)) → T (f0 ≼ c) ⊎ T (c ≼ f0)
    go true p q = inr (q tt)
    go false p q = inl (p refl)

in_between : (a z b : Float) → (T (a ≼ z) × T (z ≼ b)) ⊎ (T (b ≼ z) × T (z ≼ a)) → In z (between a b)
unfolding between lower upper
in_between a z b (inl (p, q)) = go (a ≺ b) (not-below b a (le-numbers z b q).1 (le-numbers a z p).0)
  where
    go : (t : Bool) → (t ≡ false → T (b ≼ a)) → In z (record { least = cond t a b; most = cond t b a })
    go true f = record { least = p; most = q }
    go false f = record { least = le_trans b a z (f refl) p; most = le_trans z b a q (f refl) }
in_between a z b (inr (p, q)) = go (a ≺ b) (weak a b)
  where
    go : (t : Bool) → (T t → T (a ≼ b)) → In z (record { least = cond t a b; most = cond t b a })
    go true f = record { least = le_trans a b z (f tt) p; most = le_trans z a b q (f tt) }
    go false f = record { least = p; most = q }

module _ (c x : Float) (s : Span) (m : Made c s) (i : In x s) where
  x-finite : T (finite x)
  x-finite = in-finite x s m.sound i

  pub in-plus : In (c ⊕ x) (plus c s)
  unfolding plus
  in-plus = record {
    least = add-mono c s.least x m.fixed m.sound.least x-finite i.least;
    most = add-mono c x s.most m.fixed x-finite m.sound.most i.most;
  }

  pub in-less : In (c ⊖ x) (less c s)
  unfolding less
  in-less = record {
    least = sub-turn c x s.most m.fixed x-finite m.sound.most i.most;
    most = sub-turn c s.least x m.fixed m.sound.least x-finite i.least;
  }

  pub in-minus : In (x ⊖ c) (minus s c)
  unfolding minus
  in-minus = record {
    least = sub-mono c s.least x m.fixed m.sound.least x-finite i.least;
    most = sub-mono c x s.most m.fixed x-finite m.sound.most i.most;
  }

  pub in-times : In (c ⊗ x) (times c s)
  unfolding times
  in-times = in_between (c ⊗ s.least) (c ⊗ x) (c ⊗ s.most) (go (sides c m.fixed))
    where
      go : T (f0 ≼ c) ⊎ T (c ≼ f0)
          → (T (c ⊗ s.least ≼ c ⊗ x) × T (c ⊗ x ≼ c ⊗ s.most)) ⊎ (T (c ⊗ s.most ≼ c ⊗ x) × T (c ⊗ x ≼ c ⊗ s.least))
      go (inl h) = inl (
        mul-keep c s.least x m.fixed m.sound.least x-finite i.least h,
        mul-keep c x s.most m.fixed x-finite m.sound.most i.most h,
      )
      go (inr h) = inr (
        mul-turn c x s.most m.fixed x-finite m.sound.most i.most h,
        mul-turn c s.least x m.fixed m.sound.least x-finite i.least h,
      )

  pub in-over : T (f0 ≺ c) ⊎ T (c ≺ f0) → In (x ⊘ c) (over s c)
  unfolding over
  in-over t = in_between (s.least ⊘ c) (x ⊘ c) (s.most ⊘ c) (go t)
    where
      go : T (f0 ≺ c) ⊎ T (c ≺ f0)
          → (T (s.least ⊘ c ≼ x ⊘ c) × T (x ⊘ c ≼ s.most ⊘ c)) ⊎ (T (s.most ⊘ c ≼ x ⊘ c) × T (x ⊘ c ≼ s.least ⊘ c))
      go (inl h) = inl (
        div-keep c s.least x m.fixed m.sound.least x-finite i.least h,
        div-keep c x s.most m.fixed x-finite m.sound.most i.most h,
      )
      go (inr h) = inr (
        div-turn c x s.most m.fixed x-finite m.sound.most i.most h,
        div-turn c s.least x m.fixed m.sound.least x-finite i.least h,
      )

pub in-difference : (x y : Float) (s t : Span) → Sound s → Sound t → In x s → In y t → In (x ⊖ y) (difference s t)
unfolding difference
in-difference x y s t S R i j =
    let X = in-finite x s S i in
    let Y = in-finite y t R j in
    record {
      least =
          le_trans (s.least ⊖ t.most) (x ⊖ t.most) (x ⊖ y)
          (sub-mono t.most s.least x R.most S.least X i.least)
          (sub-turn x y t.most X Y R.most j.most);
      most =
          le_trans (x ⊖ y) (s.most ⊖ y) (s.most ⊖ t.least)
          (sub-mono y x s.most Y X S.most i.most)
          (sub-turn s.most t.least y S.most R.least Y j.least);
    }

-- ---- sums, quotients of spans, and squares
pub sum-sound : (s t : Span) → Sound (sum s t) → Sound s × Sound t
unfolding sum
sum-sound s t h =
    let a = finite-add s.least t.least h.least in
    let b = finite-add s.most t.most h.most in
    (record { least = a.0; most = b.0 }, record { least = a.1; most = b.1 })

pub in_sum : (x y : Float) (s t : Span) → Sound s → Sound t → In x s → In y t → In (x ⊕ y) (sum s t)
unfolding sum
in_sum x y s t S R i j =
    let X = in-finite x s S i in
    let Y = in-finite y t R j in
    record {
      least =
          le_trans (s.least ⊕ t.least) (s.least ⊕ y) (x ⊕ y)
          (add-mono s.least t.least y S.least R.least Y j.least)
          (add_turned y s.least x Y S.least X i.least);
      most =
          le_trans (x ⊕ y) (s.most ⊕ y) (s.most ⊕ t.most)
          (add_turned y x s.most Y X S.most i.most)
          (add-mono s.most y t.most S.most Y R.most j.most);
    }

-- a number above zero, or a span above zero
above-least : (y : Float) (t : Span) → In y t → T (f0 ≺ t.least) → T (f0 ≺ y)
above-least y t j h = lt-le f0 t.least y h j.least

pub under-sound : (c : Float) (s : Span) → Sound (under c s) → T (finite c)
unfolding under
under-sound c s h = finite-div c s.least (between-sound (c ⊘ s.least) (c ⊘ s.most) h).0

pub in-under : (c x : Float) (s : Span) → T (finite c) → Sound s → In x s → T (f0 ≺ s.least) → In (c ⊘ x) (under c s)
unfolding under
in-under c x s C S i h = in_between (c ⊘ s.least) (c ⊘ x) (c ⊘ s.most) (go (sides c C))
  where
    X : T (finite x)
    X = in-finite x s S i

    go : T (f0 ≼ c) ⊎ T (c ≼ f0)
        → (T (c ⊘ s.least ≼ c ⊘ x) × T (c ⊘ x ≼ c ⊘ s.most)) ⊎ (T (c ⊘ s.most ≼ c ⊘ x) × T (c ⊘ x ≼ c ⊘ s.least))
    go (inl g) = inr (
      under-turn c x s.most C X S.most i.most (above-least x s i h) g,
      under-turn c s.least x C S.least X i.least h g,
    )
    go (inr g) = inl (
      under-keep c s.least x C S.least X i.least h g,
      under-keep c x s.most C X S.most i.most (above-least x s i h) g,
    )

pub ratio-sound : (s t : Span) → Sound (ratio s t) → Sound s
unfolding ratio
ratio-sound s t h = go (s.least ≽ f0) h
  where
    pick : Bool → Span
    pick b =
        cond b (record { least = s.least ⊘ t.most; most = s.most ⊘ t.least })
        (record { least = s.least ⊘ t.least; most = s.most ⊘ t.most })

    go : (b : Bool) → Sound (pick b) → Sound s
    go true g = record { least = finite-div s.least t.most g.least; most = finite-div s.most t.least g.most }
    go false g = record { least = finite-div s.least t.least g.least; most = finite-div s.most t.most g.most }

module _ (x y : Float) (s t : Span) (S : Sound s) (R : Sound t) (i : In x s) (j : In y t) (h : T (f0 ≺ t.least))
    (o : T ((s.least ≽ f0) || (s.most ≼ f0))) where
  fx : T (finite x)
  fx = in-finite x s S i

  fy : T (finite y)
  fy = in-finite y t R j

  y-above : T (f0 ≺ y)
  y-above = above-least y t j h

  most-above : T (f0 ≺ t.most)
  most-above = lt-le f0 y t.most y-above j.most

  pub in-ratio : In (x ⊘ y) (ratio s t)
  unfolding ratio
  in-ratio = go (s.least ≽ f0) (λ g. g) o
    where
      pick : Bool → Span
      pick b =
          cond b (record { least = s.least ⊘ t.most; most = s.most ⊘ t.least })
          (record { least = s.least ⊘ t.least; most = s.most ⊘ t.most })

      go : (b : Bool) → (T b → T (f0 ≼ s.least)) → T (b || (s.most ≼ f0)) → In (x ⊘ y) (pick b)
      go true f g = record {
        least =
            le_trans (s.least ⊘ t.most) (x ⊘ t.most) (x ⊘ y)
            (div-keep t.most s.least x R.most S.least fx i.least most-above)
            (under-turn x y t.most fx fy R.most j.most y-above (le_trans f0 s.least x (f tt) i.least));
        most =
            le_trans (x ⊘ y) (s.most ⊘ y) (s.most ⊘ t.least)
            (div-keep y x s.most fy fx S.most i.most y-above)
            (under-turn s.most t.least y S.most R.least fy j.least h
            (le_trans f0 s.least s.most (f tt) (le_trans s.least x s.most i.least i.most)));
      }
      go false f g = record {
        least =
            le_trans (s.least ⊘ t.least) (x ⊘ t.least) (x ⊘ y)
            (div-keep t.least s.least x R.least S.least fx i.least h)
            (under-keep x t.least y fx R.least fy j.least h (le_trans x s.most f0 i.most g));
        most =
            le_trans (x ⊘ y) (x ⊘ t.most) (s.most ⊘ t.most)
            (under-keep x y t.most fx fy R.most j.most y-above (le_trans x s.most f0 i.most g))
            (div-keep t.most x s.most R.most fx S.most i.most most-above);
      }

pub in-square : (x : Float) (s : Span) → Sound s → In x s → T ((s.least ≽ f0) || (s.most ≼ f0)) → In (x ⊗ x) (square s)
unfolding square
in-square x s S i o = go (s.least ≽ f0) (λ g. g) o
  where
    fx : T (finite x)
    fx = in-finite x s S i

    pick : Bool → Span
    pick b =
        cond b (record { least = s.least ⊗ s.least; most = s.most ⊗ s.most })
        (record { least = s.most ⊗ s.most; most = s.least ⊗ s.least })

    go : (b : Bool) → (T b → T (f0 ≼ s.least)) → T (b || (s.most ≼ f0)) → In (x ⊗ x) (pick b)
    go true f g = record {
      least = square-keep s.least x S.least fx i.least (f tt);
      most = square-keep x s.most fx S.most i.most (le_trans f0 s.least x (f tt) i.least);
    }
    go false f g = record {
      least = square-turn x s.most fx S.most i.most g;
      most = square-turn s.least x S.least fx i.least (le_trans x s.most f0 i.most g);
    }

-- ---- a factor on the other side
unlike-turned : (s t : Bool) → unlike s t ≡ unlike t s
unlike-turned true true = refl
unlike-turned true false = refl
unlike-turned false true = refl
unlike-turned false false = refl

pub mul-turned : (x y : Float) → x ⊗ y ≡ y ⊗ x
unfolding mul
mul-turned nan nan = refl
mul-turned nan (inf t) = refl
mul-turned nan (fin t n d) = refl
mul-turned (inf s) nan = refl
mul-turned (inf s) (inf t) = ap inf (unlike-turned s t)
mul-turned (inf s) (fin t n d) = ap (λ (z : Bool). cond (eqb n 0) nan (inf z)) (unlike-turned s t)
mul-turned (fin s m e) nan = refl
mul-turned (fin s m e) (inf t) = ap (λ (z : Bool). cond (eqb m 0) nan (inf z)) (unlike-turned s t)
mul-turned (fin s m e) (fin t n d) =
    ap (λ (z : Bool). round binary64 z (m * up e * (n * up d)) (down e * down d)) (unlike-turned s t)
    ∙ ap (λ (z : ℕ). round binary64 (unlike t s) z (down e * down d)) (mul_comm (m * up e) (n * up d))
    ∙ ap (λ (z : ℕ). round binary64 (unlike t s) (n * up d * (m * up e)) z) (mul_comm (down e) (down d))

pub in-times-turned : (c x : Float) (s : Span) → Made c s → In x s → In (x ⊗ c) (times c s)
in-times-turned c x s m i = subst (λ (z : Float). In z (times c s)) (mul-turned c x) (in-times c x s m i)

-- ---- numbers that differ by at least epsilon
pub first_off : (a b : Bool) → a ≡ false → (a && b) ≡ false
first_off a b h = rw h refl

pub second-off : (a b : Bool) → b ≡ false → (a && b) ≡ false
second-off true b h = h
second-off false b h = refl

pub apart-far : (x y : Float) (gap : Span) (eps : Float) → In (x ⊖ y) gap → T (apart gap eps) → fuzzy_eq_eps x y eps ≡ false
unfolding fuzzy_eq_eps apart
apart-far x y gap eps i h =
    abs-below (x ⊖ y) eps
    ∙ either (gap.least ≽ eps) (gap.most ≼ neg eps)
    (λ t. first_off (x ⊖ y ≺ eps) (neg eps ≺ x ⊖ y)
    (is_false (x ⊖ y ≺ eps) (le_not_lt eps (x ⊖ y) (le_trans eps gap.least (x ⊖ y) t i.least))))
    (λ t. second-off (x ⊖ y ≺ eps) (neg eps ≺ x ⊖ y)
    (is_false (neg eps ≺ x ⊖ y) (le_not_lt (x ⊖ y) (neg eps) (le_trans (x ⊖ y) gap.most (neg eps) i.most t))))
    h
