-- Parameters of a whole number over a side D, for the overlap case: floats have the order of their exact values; the greater of
-- one and 0, and the lesser of one and 1, are close to the exact ones, cut off in the same way.
use Rattle.std.specs.Prelude.{◌≡◌, refl, ◌⊎◌, ℕ, ◌+◌, ◌-◌, ◌*◌, ◌^◌, ◌≤◌, ◌<◌, min, Bool, true, false, cond, leb, Float}
use Rattle.std.proofs.Common.{sym, subst, inl, inr, mul-le-mul_right, lt_of_mul-lt-mul_right, lt_of_not-le, le_of_suc-le-suc, arith, leb→le, T_not, lit≤}
use Rattle.std.proofs.Math.Bool.{not}
use Rattle.std.proofs.Math.Dec.{T, nleb→lt}
use Rattle.std.specs.Float.{binary64}
use Rattle.std.specs.Float.Ieee.{of_bits, lt}
use Rattle.float_laws.specs.Signed.{Diff}
use Rattle.float_laws.specs.Order.{lt-over}
use Rattle.float_laws.specs.Roundings.{Near, Sized}
use Rattle.float_laws.specs.Whole.{most-whole, least-whole}
use Rattle.float_laws.specs.Binary64.{unit, unit-pos, zero_is, near64, sized64}
use Rattle.floats.specs.Ops.{f0, f1}
use Rattle.floats.specs.F64
use Rattle.floats.specs.Laws.Leaves.{min-is, max-is}
use Rattle.crossing.specs.LineLine.{rising}
use Rattle.crossing.specs.declared.line_line.Span.{Span}
use Rattle.grid.specs.Floats.Ratio.{Place, at-most-lem}

one-is : Diff f1 unit 0 unit
unfolding of_bits
one-is = omega arith

-- the float x is m / D, with an error of at most 2 ^ -54
abbrev pub Part : ℕ → Float → ℕ → Type 0
Part D x m = Sized unit x false m D (2 ^ 0) (2 ^ 54)

-- which of two parameters is the lower, and which the upper
abbrev pub Which : ℕ → ℕ → ℕ → ℕ → ℕ → ℕ → ℕ → ℕ → Type 0
Which P0 N0 P1 N1 Pl Nl Ph Nh =
    ((Pl ≡ P0) × (Nl ≡ N0) × (Ph ≡ P1) × (Nh ≡ N1)) ⊎ ((Pl ≡ P1) × (Nl ≡ N1) × (Ph ≡ P0) × (Nh ≡ N0))

not-less : (p q : ℕ) → (q < p → ⊥) → p ≤ q
not-less p q h = le_of_suc-le-suc (lt_of_not-le h)

module _ (D : ℕ) (few : D ≤ 2 ^ 21) where
  place-near : (t : Float) (P N : ℕ) → Place 21 t P N D → Near unit t P N D (2 ^ 21) (2 ^ 54)
  place-near t P N a =
      near64 t P N D 21 a.rounded a.some (at-most-lem (2 ^ 21) P N D a.P-le a.some)
      (at-most-lem (2 ^ 21) N P D a.N-le a.some)
      (lit≤ tt)

  -- ---- the order of the exact values is that of the floats
  near-lt : (s t : Float) (P N Q K : ℕ) → Near unit s P N D (2 ^ 21) (2 ^ 54) → Near unit t Q K D (2 ^ 21) (2 ^ 54)
      → P + K < Q + N
      → T (lt s t)
  near-lt s t P N Q K x y l =
      (lt-over s t x.p x.n y.p y.n unit unit-pos x.is y.is).1
      (lt_of_mul-lt-mul_right D {m = x.p + y.n} {n = y.p + x.n}
      (go x.p x.n y.p y.n unit unit-pos x.most y.least))
    where
      go : (p n q k L : ℕ) → 0 < L
          → 2 ^ 54 * (p * D + N * L) ≤ 2 ^ 54 * (P * L + n * D) + 2 ^ 21 * (D * L)
          → 2 ^ 54 * (Q * L + k * D) ≤ 2 ^ 54 * (q * D + K * L) + 2 ^ 21 * (D * L)
          → (p + k) * D < (q + n) * D
      go p n q k L O x y =
          let m = mul-le-mul_right L l in
          let w = mul-le-mul_right L few in
          omega arith

  pub places-lt : (s t : Float) (P N Q K : ℕ) → Place 21 s P N D → Place 21 t Q K D → P + K < Q + N → T (lt s t)
  places-lt s t P N Q K a b = near-lt s t P N Q K (place-near s P N a) (place-near t Q K b)

  no_both : (s t : Float) (P N Q K : ℕ) → Place 21 s P N D → Place 21 t Q K D → T (lt s t) → T (lt t s) → ⊥
  no_both s t P N Q K a b l m =
      let x = place-near s P N a in
      let y = place-near t Q K b in
      go x.p x.n y.p y.n
      ((lt-over s t x.p x.n y.p y.n unit unit-pos x.is y.is).0 l)
      ((lt-over t s y.p y.n x.p x.n unit unit-pos y.is x.is).0 m)
    where
      go : (p n q k : ℕ) → p + k < q + n → q + n < p + k → ⊥
      go p n q k x y = omega arith

  -- ---- rising: the first of the two is not greater, exactly
  pub record Risen (s : Span) (P0 N0 P1 N1 : ℕ) : Type 0 where
    pub Pl : ℕ
    pub Nl : ℕ
    pub Ph : ℕ
    pub Nh : ℕ
    pub lower : Place 21 s.t0 Pl Nl D
    pub upper : Place 21 s.t1 Ph Nh D
    pub rises : Pl + Nh ≤ Ph + Nl
    pub which : Which P0 N0 P1 N1 Pl Nl Ph Nh

  pub risen : (a b : Float) (P0 N0 P1 N1 : ℕ) → Place 21 a P0 N0 D → Place 21 b P1 N1 D → Risen (rising a b) P0 N0 P1 N1
  unfolding rising
  risen a b P0 N0 P1 N1 x y = go (lt b a) (λ t. up t) (λ t. dn t)
    where
      -- a greater one is not less, exactly
      up : T (lt b a) → P1 + N0 ≤ P0 + N1
      up t = not-less (P1 + N0) (P0 + N1) (λ k. no_both b a P1 N1 P0 N0 y x t (places-lt a b P0 N0 P1 N1 x y k))

      dn : T (not (lt b a)) → P0 + N1 ≤ P1 + N0
      dn t = not-less (P0 + N1) (P1 + N0) (λ k. T_not (lt b a) t (places-lt b a P1 N1 P0 N0 y x k))

      -- the lower, and the upper
      placed : (c d : Float) (P N Q K : ℕ) → Place 21 c P N D → Place 21 d Q K D → P + K ≤ Q + N → Which P0 N0 P1 N1 P N Q K
          → Risen (record { t0 = c; t1 = d }) P0 N0 P1 N1
      placed c d P N Q K i j l w = record { Pl = P; Nl = N; Ph = Q; Nh = K; lower = i; upper = j; rises = l; which = w }

      go : (c : Bool) → (T c → P1 + N0 ≤ P0 + N1) → (T (not c) → P0 + N1 ≤ P1 + N0)
          → Risen (cond c (record { t0 = b; t1 = a }) (record { t0 = a; t1 = b })) P0 N0 P1 N1
      go true u d = placed b a P1 N1 P0 N0 y x (u tt) (inr (refl, refl, refl, refl))
      go false u d = placed a b P0 N0 P1 N1 x y (d tt) (inl (refl, refl, refl, refl))

  -- ---- cut off at 0 and at 1
  -- a float that is k units, and so A / D exactly
  exactly : (c : Float) (A k : ℕ) → Diff c k 0 unit → k * D ≡ A * unit → Near unit c A 0 D (2 ^ 21) (2 ^ 54) × Part D c A
  exactly c A k is e = (
    record { p = k; n = 0; is = is; most = omega arith; least = omega arith },
    record { count = k; is = is; most = omega arith; least = omega arith },
  )

  zero : Near unit f0 0 0 D (2 ^ 21) (2 ^ 54) × Part D f0 0
  zero = exactly f0 0 0 zero_is (omega arith)

  one : Near unit f1 D 0 D (2 ^ 21) (2 ^ 54) × Part D f1 D
  one = exactly f1 D unit one-is (omega arith)

  -- from 0 to 1
  inside : (t : Float) (P N A : ℕ) → Place 21 t P N D → A + N ≡ P → A ≤ D → Part D t A
  inside t P N A a e l = sized64 t P N D false A 0 a.rounded a.some e (omega arith) (lit≤ tt)

  -- t, or c if the test says no: it says no if p is at most q, else yes
  cut_off : (t c : Float) (test : Bool) (A p q : ℕ) → (p ≤ q → (T test → ⊥) × Part D c A) → (q < p → T test × Part D t A)
      → Part D (cond test t c) A
  cut_off t c test A p q out in-range = go test (leb p q) (leb→le p q) (nleb→lt p q) out in-range
    where
      go : (test b : Bool) → (T b → p ≤ q) → (T (not b) → q < p) → (p ≤ q → (T test → ⊥) × Part D c A)
          → (q < p → T test × Part D t A)
          → Part D (cond test t c) A
      go true true lo hi x y = absurd ((x (lo tt)).0 tt)
      go true false lo hi x y = (y (hi tt)).1
      go false true lo hi x y = (x (lo tt)).1
      go false false lo hi x y = absurd (y (hi tt)).0

  pub from_zero : (t : Float) (P N : ℕ) → Place 21 t P N D → P ≤ N + D → Part D (F64.max t f0) (P - N)
  from_zero t P N a l =
      subst (λ (z : Float). Part D z (P - N)) (sym (max-is t f0 x.p x.n unit 0 0 unit x.is zero_is))
      (cut_off t f0 (lt f0 t) (P - N) P N out in-range)
    where
      x : Near unit t P N D (2 ^ 21) (2 ^ 54)
      x = place-near t P N a

      never : (p n L : ℕ) → p + 0 * L ≤ 0 * L + n → 0 + n < p + 0 → ⊥
      never p n L y z = omega arith

      out : P ≤ N → (T (lt f0 t) → ⊥) × Part D f0 (P - N)
      out w =
          let none : 0 ≡ P - N = omega arith in
          let most = most-whole binary64 t P N D a.rounded a.some x.p x.n unit unit-pos x.is 0 0 (lit≤ tt)
          (lit≤ tt)
          (omega arith) in (
            λ y. never x.p x.n unit most ((lt-over f0 t 0 0 x.p x.n unit unit-pos zero_is x.is).0 y),
            subst (Part D f0) none zero.1,
          )

      in-range : N < P → T (lt f0 t) × Part D t (P - N)
      in-range w = (near-lt f0 t 0 0 P N zero.0 x (omega arith), inside t P N (P - N) a (omega arith) (omega arith))

  pub to_one : (t : Float) (P N : ℕ) → Place 21 t P N D → N ≤ P → Part D (F64.min t f1) (min (P - N) D)
  to_one t P N a l =
      subst (λ (z : Float). Part D z (min (P - N) D)) (sym (min-is t f1 x.p x.n unit unit 0 unit x.is one-is))
      (cut_off t f1 (lt t f1) (min (P - N) D) (N + D) P out in-range)
    where
      x : Near unit t P N D (2 ^ 21) (2 ^ 54)
      x = place-near t P N a

      never : (p n L : ℕ) → 1 * L + n ≤ p + 0 * L → p + 0 < L + n → ⊥
      never p n L y z = omega arith

      out : N + D ≤ P → (T (lt t f1) → ⊥) × Part D f1 (min (P - N) D)
      out w =
          let whole : D ≡ min (P - N) D = omega arith in
          let least = least-whole binary64 t P N D a.rounded a.some x.p x.n unit unit-pos x.is 1 0 (lit≤ tt)
          (lit≤ tt)
          (omega arith) in (
            λ y. never x.p x.n unit least ((lt-over t f1 x.p x.n unit 0 unit unit-pos x.is one-is).0 y),
            subst (Part D f1) whole one.1,
          )

      in-range : P < N + D → T (lt t f1) × Part D t (min (P - N) D)
      in-range w = (near-lt t f1 P N D 0 x one.0 (omega arith), inside t P N (min (P - N) D) a (omega arith) (omega arith))
