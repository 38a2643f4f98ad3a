-- A text of the form is read: a number's digits and the byte that ends it, a vertex's text line, the text lines of a path.
use Prim.Native.Nat.{ℕ, zero, suc, ◌+◌, ◌*◌, ◌/◌, ◌%◌, ◌≤◌, ◌<◌}
use Rattle.std.specs.Prelude.{◌≡◌, refl, Bool, List, [], ◌∷◌, ◌++◌, length, ℤ, pos, negsuc}
use Rattle.std.proofs.Math.Path.{ap}
use Rattle.std.proofs.Common.{◌∙◌, append_assoc, append-nil}
use Rattle.std.proofs.Math.Bool.{true, false}
use native.Mathlib.Omega.{arith}
use borrow.Author.Tests.{lt-ltb, le-ltb, eq-eqb, ne_eqb}
use Rattle.layouts.specs.Limits as limit
use Rattle.layouts.specs.Layout.{Vertex, Layout, VertexWithin, EachWithin, none, more, Within, magnitude, whole}
use Rattle.put_text.specs.Decimal.{decimal}
use Rattle.layout_text.specs.Form.{whole_text, vertex_text, vertices_text, counts_text, text_of}
use Rattle.layout_text.specs.Workings.Reader.{got, kind_of, first_kind, digits_of, positive_of, zero_of, count_of}
use Rattle.layout_text.specs.Workings.Reader.{whole_of, vertex_of, vertices_of, lines_of, space, newline, minus}
use Rattle.put_text.specs.Laws.Decimal.{decimal-small, decimal-large, by_digits}
use Rattle.layout_text.specs.Laws.Bytes.{kind-digit}

-- the last digit of a number with several digits, then what follows
last-digit : (m : ℕ) (t : List ℕ) → 10 ≤ m → decimal m ++ t ≡ decimal (m / 10) ++ ((48 + m % 10) ∷ t)
last-digit m t h = rw (decimal-large m h) (append_assoc (decimal (m / 10)) ((48 + m % 10) ∷ []) t)

one-digit : (m : ℕ) (t : List ℕ) → m < 10 → decimal m ++ t ≡ (48 + m) ∷ t
one-digit m t h = rw (decimal-small m h)

-- ---- the first digit

first_of : (d : ℕ) (t : List ℕ) → d < 10 → first_kind ((48 + d) ∷ t) ≡ d
unfolding first_kind
first_of d t h = kind-digit d h

-- the first digit of a number above 0 is 1 to 9
pub first-digit : (m : ℕ) (t : List ℕ) → 0 < m → (0 < first_kind (decimal m ++ t)) × (first_kind (decimal m ++ t) < 10)
first-digit =
    by_digits (λ m t. 0 < m → (0 < first_kind (decimal m ++ t)) × (first_kind (decimal m ++ t) < 10))
    (λ m t small p. rw (one-digit m t small, first_of m t small) (p, small))
    (λ m t large rest p. rw (last-digit m t large) (rest (omega arith)))

-- ---- digits

module _ (negative : Bool) (most end : ℕ) where
  digit-step : (n d : ℕ) (t : List ℕ) → d < 10 → n * 10 + d ≤ most
      → digits_of negative most end n ((48 + d) ∷ t) ≡ digits_of negative most end (n * 10 + d) t
  unfolding digits_of
  digit-step n d t h g =
      let below : d ≤ 9 = omega arith in
      rw (kind-digit d h, le-ltb _ _ below, le-ltb _ _ g)

  digits_in : (m : ℕ) (t : List ℕ) → m ≤ most → digits_of negative most end 0 (decimal m ++ t) ≡ digits_of negative most end m t
  digits_in =
      by_digits (λ m t. m ≤ most → digits_of negative most end 0 (decimal m ++ t) ≡ digits_of negative most end m t)
      (λ m t small h.
      let e : 0 * 10 + m ≡ m = omega arith in
      rw (one-digit m t small) (digit-step 0 m t small (omega arith) ∙ ap (λ (n : ℕ). digits_of negative most end n t) e))
      (λ m t large rest h.
      let e : m / 10 * 10 + m % 10 ≡ m = omega arith in
      rw (last-digit m t large)
      (rest (omega arith)
      ∙ digit-step (m / 10) (m % 10) t (omega arith) (omega arith)
      ∙ ap (λ (n : ℕ). digits_of negative most end n t) e))

  module _ (e : ℕ) (ends : kind_of e ≡ end) (mark : 9 < end) where
    digits-end : (n : ℕ) (t : List ℕ) → digits_of negative most end n (e ∷ t) ≡ got (whole negative n) t
    unfolding digits_of
    digits-end n t = rw (ends, lt-ltb _ _ mark, eq-eqb end end refl)

    pub positive-read : (m : ℕ) (t : List ℕ) → 0 < m → m ≤ most
        → positive_of negative most end (decimal m ++ (e ∷ t)) ≡ got (whole negative m) t
    unfolding positive_of
    positive-read m t p h =
        let first = first-digit m (e ∷ t) p in
        let digit : first_kind (decimal m ++ (e ∷ t)) ≤ 9 = omega (arith, first.1) in
        rw (ne_eqb (first_kind (decimal m ++ (e ∷ t))) 0 (λ z. omega (arith, z, first.0)), le-ltb _ _ digit)
        (digits_in m (e ∷ t) h ∙ digits-end m t)

-- ---- numbers, with the byte that ends them

module _ (most end e : ℕ) (ends : kind_of e ≡ end) (mark : 9 < end) where
  zero-read : (t : List ℕ) → count_of most end (decimal 0 ++ (e ∷ t)) ≡ got (pos 0) t
  unfolding count_of zero_of first_kind
  zero-read t = rw (one-digit 0 (e ∷ t) (omega arith), kind-digit 0 (omega arith), eq-eqb (kind_of e) end ends)

  pub count-read : (m : ℕ) (t : List ℕ) → m ≤ most → count_of most end (decimal m ++ (e ∷ t)) ≡ got (pos m) t
  unfolding count_of
  count-read zero t h = zero-read t
  count-read (suc m) t h =
      let first = first-digit (suc m) (e ∷ t) (omega arith) in
      rw (ne_eqb (first_kind (decimal (suc m) ++ (e ∷ t))) 0 (λ z. omega (arith, z, first.0)))
      (positive-read false most end e ends mark (suc m) t (omega arith) h)

  no_minus : (m : ℕ) (t : List ℕ) → first_kind (decimal m ++ (e ∷ t)) ≡ minus → ⊥
  unfolding first_kind
  no_minus zero t z =
      let zeroth = ap first_kind (one-digit 0 (e ∷ t) (omega arith)) ∙ kind-digit 0 (omega arith) in
      omega (arith, z, zeroth)
  no_minus (suc m) t z = omega (arith, z, (first-digit (suc m) (e ∷ t) (omega arith)).1)

  pub whole-read : (z : ℤ) (t : List ℕ) → magnitude z ≤ most → whole_of most end (whole_text z ++ (e ∷ t)) ≡ got z t
  unfolding whole_of whole_text first_kind kind_of
  whole-read (pos m) t h = rw (ne_eqb (first_kind (decimal m ++ (e ∷ t))) minus (no_minus m t)) (count-read m t h)
  whole-read (negsuc m) t h = positive-read true most end e ends mark (suc m) t (omega arith) h

-- ---- text lines

is-space : kind_of 32 ≡ space
unfolding kind_of
is-space = refl

is_newline : kind_of 10 ≡ newline
unfolding kind_of
is_newline = refl

-- the text line with the counts, then what follows
pub counts-then : (n m : ℕ) (t : List ℕ) → counts_text n m ++ t ≡ decimal n ++ (32 ∷ (decimal m ++ (10 ∷ t)))
unfolding counts_text
counts-then n m t =
    append_assoc (decimal n ++ (32 ∷ decimal m)) (10 ∷ []) t ∙ append_assoc (decimal n) (32 ∷ decimal m) (10 ∷ t)

pub vertex-read : (v : Vertex) (t : List ℕ) → VertexWithin v → vertex_of (vertex_text v ++ t) ≡ got v t
unfolding vertex_of vertex_text
vertex-read v t w =
    let last : List ℕ = 10 ∷ t in
    let third : List ℕ = 32 ∷ (whole_text v.bulge ++ last) in
    let x-read = whole-read limit.coordinate space 32 is-space (omega arith) v.x (whole_text v.y ++ third) w.x-within in
    let y-read =
    whole-read limit.coordinate space 32 is-space (omega arith) v.y (whole_text v.bulge ++ last) w.y-within in
    let bulge-read = whole-read limit.bulge newline 10 is_newline (omega arith) v.bulge t w.bulge-within in
    simp (append_assoc, x-read, y-read, bulge-read)

pub vertices-read : (vs : List Vertex) (t : List ℕ) → EachWithin vs → vertices_of (length vs) (vertices_text vs ++ t) ≡ got vs t
unfolding vertices_of vertices_text
vertices-read [] t none = refl
vertices-read (v ∷ vs) t (more w ws) =
    rw (append_assoc (vertex_text v) (vertices_text vs) t, vertex-read v (vertices_text vs ++ t) w, vertices-read vs t ws)

pub lines-read : (l : Layout) → Within l → lines_of (text_of l) ≡ got l []
unfolding lines_of text_of
lines-read l w =
    let lines = vertices_text l.first ++ vertices_text l.second in
    let counted = decimal (length l.second) ++ (10 ∷ lines) in
    let n-read = count-read limit.vertices space 32 is-space (omega arith) (length l.first) counted w.first_count in
    let m-read = count-read limit.vertices newline 10 is_newline (omega arith) (length l.second) lines w.second-count in
    let first_read = vertices-read l.first (vertices_text l.second) w.first-each in
    let second-read = rw (append-nil (vertices_text l.second)) at (vertices-read l.second [] w.second-each) in
    simp append_assoc (simp (counts-then, n-read, m-read, first_read, second-read))
