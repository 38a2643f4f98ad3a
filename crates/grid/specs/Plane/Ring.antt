-- Equations between sums of products of whole numbers, by computation: both sides are multiplied out and their terms collected.
-- If the difference has no terms left, the two are equal for all numbers. `solve` is used as `solve (a ∷ b ∷ []) (x0 ⊠ x1) (x1 ⊠
-- x0) refl`.
use Rattle.std.specs.Prelude.{◌≡◌, Bool, cond, ◌&&◌, ℕ, zero, suc, leb, ltb, eqb, ℤ, negsuc, ◌+ℤ◌, ◌-ℤ◌, ◌*ℤ◌}
use Rattle.std.proofs.Math.Path.{refl, sym, ap}
use Rattle.std.proofs.Common.{◌∙◌, arith, eqb→eq}
use Rattle.std.proofs.Math.Bool.{true, false}
use mathlib.Core.List.{List, [], ◌∷◌}
use Rattle.std.proofs.Math.Dec.{T}
use Rattle.std.proofs.Math.IntN.{pos, neg_ℤ}
use Rattle.grid.specs.Plane.Whole.{whole, naturals}

-- ---- the laws that it uses
pub mul_assoc : (a b c : ℤ) → a *ℤ b *ℤ c ≡ a *ℤ (b *ℤ c)
mul_assoc a b c = rw (← whole a, ← whole b, ← whole c) (simp naturals (omega arith))

swap_mul : (a b c : ℤ) → b *ℤ (a *ℤ c) ≡ a *ℤ (b *ℤ c)
swap_mul a b c = rw (← whole a, ← whole b, ← whole c) (simp naturals (omega arith))

one-mul : (a : ℤ) → pos 1 *ℤ a ≡ a
one-mul a = rw (← whole a) (simp naturals (omega arith))

zero-add : (a : ℤ) → pos 0 +ℤ a ≡ a
zero-add a = rw (← whole a) (simp naturals (omega arith))

zero-mul : (a : ℤ) → pos 0 *ℤ a ≡ pos 0
zero-mul a = rw (← whole a) (simp naturals (omega arith))

mul-zero : (a : ℤ) → a *ℤ pos 0 ≡ pos 0
mul-zero a = rw (← whole a) (simp naturals (omega arith))

add_assoc : (a b c : ℤ) → a +ℤ b +ℤ c ≡ a +ℤ (b +ℤ c)
add_assoc a b c = rw (← whole a, ← whole b, ← whole c) (simp naturals (omega arith))

swap_add : (a b c : ℤ) → b +ℤ (a +ℤ c) ≡ a +ℤ (b +ℤ c)
swap_add a b c = rw (← whole a, ← whole b, ← whole c) (simp naturals (omega arith))

gather : (c d m p : ℤ) → (c +ℤ d) *ℤ m +ℤ p ≡ c *ℤ m +ℤ (d *ℤ m +ℤ p)
gather c d m p = rw (← whole c, ← whole d, ← whole m, ← whole p) (simp naturals (omega arith))

spread : (a d k p : ℤ) → a *ℤ (d *ℤ k) +ℤ a *ℤ p ≡ a *ℤ (d *ℤ k +ℤ p)
spread a d k p = go (d *ℤ k)
  where
    go : (x : ℤ) → a *ℤ x +ℤ a *ℤ p ≡ a *ℤ (x +ℤ p)
    go x = rw (← whole a, ← whole x, ← whole p) (simp naturals (omega arith))

add-mul : (a b c : ℤ) → a *ℤ c +ℤ b *ℤ c ≡ (a +ℤ b) *ℤ c
add-mul a b c = rw (← whole a, ← whole b, ← whole c) (simp naturals (omega arith))

neg_sum : (c m p : ℤ) → neg_ℤ c *ℤ m +ℤ neg_ℤ p ≡ neg_ℤ (c *ℤ m +ℤ p)
neg_sum c m p = rw (← whole c, ← whole m, ← whole p) (simp naturals (omega arith))

pair-up : (c d m k : ℤ) → c *ℤ d *ℤ (m *ℤ k) ≡ c *ℤ m *ℤ (d *ℤ k)
pair-up c d m k = mul_assoc c d (m *ℤ k) ∙ ap (λ (x : ℤ). c *ℤ x) (swap_mul m d k) ∙ sym (mul_assoc c m (d *ℤ k))

pub equal-of-sub : (a b : ℤ) → a -ℤ b ≡ pos 0 → a ≡ b
equal-of-sub a b = rw (← whole a, ← whole b) (simp naturals (omega arith))

-- ---- expressions over numbered variables
infixl 6 ◌⊞◌ ◌⊟◌
infixl 7 ◌⊠◌
pub data Expr : Type 0 where
  var : ℕ → Expr
  num : ℕ → Expr
  neg : Expr → Expr
  ◌⊞◌ : Expr → Expr → Expr
  ◌⊟◌ : Expr → Expr → Expr
  ◌⊠◌ : Expr → Expr → Expr

abbrev look : List ℤ → ℕ → ℤ
look [] i = pos 0
look (x ∷ xs) zero = x
look (x ∷ xs) (suc i) = look xs i

abbrev pub value : List ℤ → Expr → ℤ
value ρ (var i) = look ρ i
value ρ (num k) = pos k
value ρ (neg e) = neg_ℤ (value ρ e)
value ρ (e ⊞ f) = value ρ e +ℤ value ρ f
value ρ (e ⊟ f) = value ρ e -ℤ value ρ f
value ρ (e ⊠ f) = value ρ e *ℤ value ρ f

-- ---- terms: a coefficient and the variables of a product, in their order
pub data Poly : Type 0 where
  none : Poly
  term : ℤ → List ℕ → Poly → Poly

abbrev put : ℕ → List ℕ → List ℕ
put i [] = i ∷ []
put i (j ∷ m) = cond (leb i j) (i ∷ j ∷ m) (j ∷ put i m)

abbrev join : List ℕ → List ℕ → List ℕ
join [] m = m
join (i ∷ k) m = put i (join k m)

abbrev alike : List ℕ → List ℕ → Bool
alike [] [] = true
alike [] (j ∷ k) = false
alike (i ∷ m) [] = false
alike (i ∷ m) (j ∷ k) = eqb i j && alike m k

abbrev before : List ℕ → List ℕ → Bool
before [] k = true
before (i ∷ m) [] = false
before (i ∷ m) (j ∷ k) = cond (eqb i j) (before m k) (ltb i j)

abbrev insert : ℤ → List ℕ → Poly → Poly
insert c m none = term c m none
insert c m (term d k p) =
    cond (alike m k) (term (c +ℤ d) k p) (cond (before m k) (term c m (term d k p)) (term d k (insert c m p)))

abbrev plus : Poly → Poly → Poly
plus none q = q
plus (term c m p) q = insert c m (plus p q)

abbrev scale : ℤ → List ℕ → Poly → Poly
scale c m none = none
scale c m (term d k p) = insert (c *ℤ d) (join m k) (scale c m p)

abbrev mult : Poly → Poly → Poly
mult none q = none
mult (term c m p) q = plus (scale c m q) (mult p q)

abbrev opposite : Poly → Poly
opposite none = none
opposite (term c m p) = term (neg_ℤ c) m (opposite p)

abbrev norm : Expr → Poly
norm (var i) = term (pos 1) (i ∷ []) none
norm (num k) = term (pos k) [] none
norm (neg e) = opposite (norm e)
norm (e ⊞ f) = plus (norm e) (norm f)
norm (e ⊟ f) = plus (norm e) (opposite (norm f))
norm (e ⊠ f) = mult (norm e) (norm f)

-- whether every coefficient is 0
abbrev gone : Poly → Bool
gone none = true
gone (term (pos zero) m p) = gone p
gone (term (pos (suc c)) m p) = false
gone (term (negsuc c) m p) = false

-- ---- the value of terms
module _ (ρ : List ℤ) where
  prod : List ℕ → ℤ
  prod [] = pos 1
  prod (i ∷ m) = look ρ i *ℤ prod m

  worth : Poly → ℤ
  worth none = pos 0
  worth (term c m p) = c *ℤ prod m +ℤ worth p

  prod-put : (i : ℕ) (m : List ℕ) → prod (put i m) ≡ look ρ i *ℤ prod m
  unfolding prod
  prod-put i [] = refl
  prod-put i (j ∷ m) = go (leb i j) (prod-put i m)
    where
      go : (b : Bool) → prod (put i m) ≡ look ρ i *ℤ prod m
          → prod (cond b (i ∷ j ∷ m) (j ∷ put i m)) ≡ look ρ i *ℤ (look ρ j *ℤ prod m)
      go true h = refl
      go false h = ap (λ (x : ℤ). look ρ j *ℤ x) h ∙ swap_mul (look ρ i) (look ρ j) (prod m)

  prod-join : (k m : List ℕ) → prod (join k m) ≡ prod k *ℤ prod m
  unfolding prod
  prod-join [] m = sym (one-mul (prod m))
  prod-join (i ∷ k) m =
      prod-put i (join k m)
      ∙ ap (λ (x : ℤ). look ρ i *ℤ x) (prod-join k m)
      ∙ sym (mul_assoc (look ρ i) (prod k) (prod m))

  alike_same : (m k : List ℕ) → T (alike m k) → prod m ≡ prod k
  unfolding prod
  alike_same [] [] t = refl
  alike_same [] (j ∷ k) t = absurd t
  alike_same (i ∷ m) [] t = absurd t
  alike_same (i ∷ m) (j ∷ k) t = go (eqb i j) (eqb→eq i j) (alike_same m k) t
    where
      go : (b : Bool) → (T b → i ≡ j) → (T (alike m k) → prod m ≡ prod k) → T (b && alike m k)
          → look ρ i *ℤ prod m ≡ look ρ j *ℤ prod k
      go true e h t = ap (λ (x : ℕ). look ρ x *ℤ prod m) (e tt) ∙ ap (λ (x : ℤ). look ρ j *ℤ x) (h t)
      go false e h t = absurd t

  worth-insert : (c : ℤ) (m : List ℕ) (p : Poly) → worth (insert c m p) ≡ c *ℤ prod m +ℤ worth p
  unfolding worth
  worth-insert c m none = refl
  worth-insert c m (term d k p) = go (alike m k) (alike_same m k) (before m k) (worth-insert c m p)
    where
      go : (a : Bool) → (T a → prod m ≡ prod k) → (b : Bool) → worth (insert c m p) ≡ c *ℤ prod m +ℤ worth p
          → worth (cond a (term (c +ℤ d) k p) (cond b (term c m (term d k p)) (term d k (insert c m p))))
          ≡ c *ℤ prod m +ℤ (d *ℤ prod k +ℤ worth p)
      go true e b h =
          gather c d (prod k) (worth p) ∙ ap (λ (x : ℤ). c *ℤ x +ℤ (d *ℤ prod k +ℤ worth p)) (sym (e tt))
      go false e true h = refl
      go false e false h =
          ap (λ (x : ℤ). d *ℤ prod k +ℤ x) h
          ∙ swap_add (c *ℤ prod m) (d *ℤ prod k) (worth p)

  worth-plus : (p q : Poly) → worth (plus p q) ≡ worth p +ℤ worth q
  unfolding worth
  worth-plus none q = sym (zero-add (worth q))
  worth-plus (term c m p) q =
      worth-insert c m (plus p q)
      ∙ ap (λ (x : ℤ). c *ℤ prod m +ℤ x) (worth-plus p q)
      ∙ sym (add_assoc (c *ℤ prod m) (worth p) (worth q))

  worth-scale : (c : ℤ) (m : List ℕ) (p : Poly) → worth (scale c m p) ≡ c *ℤ prod m *ℤ worth p
  unfolding worth
  worth-scale c m none = sym (mul-zero (c *ℤ prod m))
  worth-scale c m (term d k p) =
      worth-insert (c *ℤ d) (join m k) (scale c m p)
      ∙ ap (λ (x : ℤ). c *ℤ d *ℤ x +ℤ worth (scale c m p)) (prod-join m k)
      ∙ ap (λ (x : ℤ). x +ℤ worth (scale c m p)) (pair-up c d (prod m) (prod k))
      ∙ ap (λ (x : ℤ). c *ℤ prod m *ℤ (d *ℤ prod k) +ℤ x) (worth-scale c m p)
      ∙ spread (c *ℤ prod m) d (prod k) (worth p)

  worth-mult : (p q : Poly) → worth (mult p q) ≡ worth p *ℤ worth q
  unfolding worth
  worth-mult none q = sym (zero-mul (worth q))
  worth-mult (term c m p) q =
      worth-plus (scale c m q) (mult p q)
      ∙ ap (λ (x : ℤ). x +ℤ worth (mult p q)) (worth-scale c m q)
      ∙ ap (λ (x : ℤ). c *ℤ prod m *ℤ worth q +ℤ x) (worth-mult p q)
      ∙ add-mul (c *ℤ prod m) (worth p) (worth q)

  worth-opposite : (p : Poly) → worth (opposite p) ≡ neg_ℤ (worth p)
  unfolding worth
  worth-opposite none = refl
  worth-opposite (term c m p) =
      ap (λ (x : ℤ). neg_ℤ c *ℤ prod m +ℤ x) (worth-opposite p) ∙ neg_sum c (prod m) (worth p)

  worth-norm : (e : Expr) → worth (norm e) ≡ value ρ e
  unfolding worth prod
  worth-norm (var i) = single (look ρ i)
    where
      single : (a : ℤ) → pos 1 *ℤ (a *ℤ pos 1) +ℤ pos 0 ≡ a
      single a = rw (← whole a) (simp naturals (omega arith))
  worth-norm (num k) = single (pos k)
    where
      single : (a : ℤ) → a *ℤ pos 1 +ℤ pos 0 ≡ a
      single a = rw (← whole a) (simp naturals (omega arith))
  worth-norm (neg e) = worth-opposite (norm e) ∙ ap neg_ℤ (worth-norm e)
  worth-norm (e ⊞ f) =
      worth-plus (norm e) (norm f)
      ∙ ap (λ (x : ℤ). x +ℤ worth (norm f)) (worth-norm e)
      ∙ ap (λ (x : ℤ). value ρ e +ℤ x) (worth-norm f)
  worth-norm (e ⊟ f) =
      worth-plus (norm e) (opposite (norm f))
      ∙ ap (λ (x : ℤ). x +ℤ worth (opposite (norm f))) (worth-norm e)
      ∙ ap (λ (x : ℤ). value ρ e +ℤ x) (worth-opposite (norm f) ∙ ap neg_ℤ (worth-norm f))
  worth-norm (e ⊠ f) =
      worth-mult (norm e) (norm f)
      ∙ ap (λ (x : ℤ). x *ℤ worth (norm f)) (worth-norm e)
      ∙ ap (λ (x : ℤ). value ρ e *ℤ x) (worth-norm f)

  worth-gone : (p : Poly) → T (gone p) → worth p ≡ pos 0
  unfolding worth
  worth-gone none t = refl
  worth-gone (term (pos zero) m p) t =
      ap (λ (x : ℤ). x +ℤ worth p) (zero-mul (prod m)) ∙ zero-add (worth p) ∙ worth-gone p t
  worth-gone (term (pos (suc c)) m p) t = absurd t
  worth-gone (term (negsuc c) m p) t = absurd t

-- ---- an expression without terms is 0 for all numbers, and two expressions whose difference is 0 are equal
vanishes : (ρ : List ℤ) (e : Expr) → T (gone (norm e)) → value ρ e ≡ pos 0
vanishes ρ e t = sym (worth-norm ρ e) ∙ worth-gone ρ (norm e) t

pub solve : (ρ : List ℤ) (e f : Expr) → T (gone (norm (e ⊟ f))) → value ρ e ≡ value ρ f
solve ρ e f t = equal-of-sub (value ρ e) (value ρ f) (vanishes ρ (e ⊟ f) t)

pub sub-of-equal : (a b : ℤ) → a ≡ b → a -ℤ b ≡ pos 0
sub-of-equal a b h = ap (λ (z : ℤ). z -ℤ b) h ∙ solve (b ∷ []) (var 0 ⊟ var 0) (num 0) tt

-- ---- the same with known facts: e ≡ f follows from l ≡ r if e - f is c * (l - r), and from two such facts if it is the sum of
-- both
multiple : (ρ : List ℤ) (c l r : Expr) → value ρ l ≡ value ρ r → value ρ (c ⊠ (l ⊟ r)) ≡ pos 0
multiple ρ c l r h =
    ap (λ (z : ℤ). value ρ c *ℤ z) (sub-of-equal (value ρ l) (value ρ r) h) ∙ mul-zero (value ρ c)

pub combine : (ρ : List ℤ) (e f c l r : Expr) → value ρ l ≡ value ρ r → T (gone (norm (e ⊟ f ⊟ c ⊠ (l ⊟ r))))
    → value ρ e ≡ value ρ f
combine ρ e f c l r h t =
    let known = c ⊠ (l ⊟ r) in
    let rest = equal-of-sub (value ρ (e ⊟ f)) (value ρ known) (vanishes ρ (e ⊟ f ⊟ known) t) in
    equal-of-sub (value ρ e) (value ρ f) (rest ∙ multiple ρ c l r h)

pub combine2 : (ρ : List ℤ) (e f c l r d m n : Expr) → value ρ l ≡ value ρ r → value ρ m ≡ value ρ n
    → T (gone (norm (e ⊟ f ⊟ c ⊠ (l ⊟ r) ⊟ d ⊠ (m ⊟ n))))
    → value ρ e ≡ value ρ f
combine2 ρ e f c l r d m n h k t =
    let known = c ⊠ (l ⊟ r) in
    let more = d ⊠ (m ⊟ n) in
    let rest = equal-of-sub (value ρ (e ⊟ f ⊟ known)) (value ρ more) (vanishes ρ (e ⊟ f ⊟ known ⊟ more) t) in
    let less = equal-of-sub (value ρ (e ⊟ f)) (value ρ known) (rest ∙ multiple ρ d m n k) in
    equal-of-sub (value ρ e) (value ρ f) (less ∙ multiple ρ c l r h)
