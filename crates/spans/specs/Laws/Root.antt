-- A span that holds a root: a float whose square is below q is not above the root of q, and one whose square is above q is not
-- below it.
use Rattle.std.specs.Prelude.{◌≡◌, refl, ℕ, ◌*◌, ◌≤◌, Bool, true, false, ◌&&◌, T, Float}
use Rattle.std.proofs.Common.{mul-le-mul_right}
use Rattle.std.specs.Float.{binary64}
use Rattle.std.specs.Float.Ieee.{of_bits, fits, lt}
use Rattle.std.specs.Float.Ieee.Fits.{and_i, and_l, and_r}
use Rattle.std.specs.Float.Ieee.Scale.{finite}
use Rattle.std.specs.Float.Ieee.Order.{le_of_values}
use Rattle.float_laws.specs.Binary64.{unit, unit-pos}
use Rattle.float_laws.specs.Chains.{le_trans, lt-le, not-both, not-below, le-numbers, le_refl, finite-real, between-finite}
use Rattle.floats.specs.Ops.{◌⊗◌, ◌≺◌, ◌≼◌, ◌≽◌, f0}
use Rattle.floats.specs.F64
use Rattle.floats.specs.Laws.RootPowers.{root64}
use Rattle.crossing.specs.Workings.FarLine.{moderate, tiny, huge, counts, root-most, root-least}
use Rattle.spans.specs.declared.span.Span.{Span}
use Rattle.spans.specs.Workings.Root.{holds_root}
use Rattle.spans.specs.Laws.Spans.{In, Sound, weak}

-- what is moderate is finite and above zero
pub tiny-finite : T (finite tiny)
unfolding of_bits
tiny-finite = tt

pub huge-finite : T (finite huge)
unfolding of_bits
huge-finite = tt

tiny-above : T (f0 ≺ tiny)
unfolding of_bits lt
tiny-above = tt

pub moderate-finite : (x : Float) → T (moderate x) → T (finite x)
moderate-finite x m = between-finite tiny x huge tiny-finite huge-finite (and_l (x ≽ tiny) (x ≼ huge) m) (and_r (x ≽ tiny) (x ≼ huge) m)

pub moderate-above : (x : Float) → T (moderate x) → T (f0 ≺ x)
moderate-above x m = lt-le f0 tiny x tiny-above (and_l (x ≽ tiny) (x ≼ huge) m)

-- up to y, and y below z
le-lt : (x y z : Float) → T (x ≼ y) → T (y ≺ z) → T (x ≺ z)
le-lt x y z h g =
    let n = le-numbers x y h in
    let m = le-numbers y z (weak y z g) in
    go (x ≺ z) (λ e. not-below z x m.1 n.0 e)
  where
    go : (t : Bool) → (t ≡ false → T (z ≼ x)) → T t
    go true f = tt
    go false f = absurd (not-both z y (le_trans z x y (f refl) h) g)

-- the parts of a yes
pub record Held (q s : Span) : Type 0 where
  pub q-least : T (moderate q.least)
  pub q-most : T (moderate q.most)
  pub least : T (moderate s.least)
  pub most : T (moderate s.most)
  pub under : T (s.least ⊗ s.least ≺ q.least)
  pub over : T (q.most ≺ s.most ⊗ s.most)

pub held : (q s : Span) → T (holds_root q s) → Held q s
unfolding holds_root
held q s t =
    let qs = moderate q.least && moderate q.most in
    let ss = moderate s.least && moderate s.most in
    let squares = (s.least ⊗ s.least ≺ q.least) && (q.most ≺ s.most ⊗ s.most) in
    let a = and_l (qs && ss) squares t in
    let b = and_r (qs && ss) squares t in
    record {
      q-least = and_l (moderate q.least) (moderate q.most) (and_l qs ss a);
      q-most = and_r (moderate q.least) (moderate q.most) (and_l qs ss a);
      least = and_l (moderate s.least) (moderate s.most) (and_r qs ss a);
      most = and_r (moderate s.least) (moderate s.most) (and_r qs ss a);
      under = and_l (s.least ⊗ s.least ≺ q.least) (q.most ≺ s.most ⊗ s.most) b;
      over = and_r (s.least ⊗ s.least ≺ q.least) (q.most ≺ s.most ⊗ s.most) b;
    }

pub held-sound : (q s : Span) → Held q s → Sound q × Sound s
held-sound q s h = (
  record { least = moderate-finite q.least h.q-least; most = moderate-finite q.most h.q-most },
  record { least = moderate-finite s.least h.least; most = moderate-finite s.most h.most },
)

pub in-root : (x : Float) (q s : Span) → T (fits binary64 x) → T (fits binary64 s.least) → T (fits binary64 s.most) → In x q
    → T (holds_root q s) → In (F64.sqrt x) s
in-root x q s f g h i t =
    let e = held q s t in
    let m = and_i (x ≽ tiny) (x ≼ huge)
    (le_trans tiny q.least x (and_l (q.least ≽ tiny) (q.least ≼ huge) e.q-least) i.least)
    (le_trans x q.most huge i.most (and_r (q.most ≽ tiny) (q.most ≼ huge) e.q-most)) in
    let Q = counts x f m in
    let L = counts s.least g e.least in
    let M = counts s.most h e.most in
    let low = root-least x Q.X f Q.value Q.some s.least L.X g L.value
    (lt-le (s.least ⊗ s.least) q.least x e.under i.least) in
    let high = root-most x Q.X f Q.value Q.some s.most M.X h M.value
    (le-lt x q.most (s.most ⊗ s.most) i.most e.over) in
    let root = root64 x Q.X f Q.some Q.value in
    record {
      least = le_of_values s.least (F64.sqrt x) L.X unit root.R unit unit-pos unit-pos L.value root.value (wide low);
      most = le_of_values (F64.sqrt x) s.most root.R unit M.X unit unit-pos unit-pos root.value M.value (wide high);
    }
  where
    wide : {a b : ℕ} → a ≤ b → a * unit ≤ b * unit
    wide l = mul-le-mul_right unit l

-- a number alone
pub alone : (x : Float) → T (moderate x) → In x (record { least = x; most = x })
alone x m = let r = le_refl x (finite-real x (moderate-finite x m)) in record { least = r; most = r }
