-- What is read has the form: the bytes read are the text of what was read, which is within the limits.
use Rattle.std.specs.Prelude.{ℕ, zero, suc, ◌+◌, ◌*◌, ◌≤◌, ◌<◌, ◌≡◌, Bool, not, T, ltb, length, drop, ℤ}
use Rattle.std.proofs.Math.Path.{refl, sym, ap}
use Rattle.std.proofs.Common.{◌∙◌, subst, le-ltb, nltb→le, eqb→eq}
use Rattle.std.proofs.Math.Bool.{true, false, cond}
use mathlib.Core.List.{List, [], ◌∷◌, ◌++◌, append_assoc}
use Rattle.std.proofs.Math.Nat.{pos_of_ne-zero}
use native.Mathlib.Omega.{arith}
use Rattle.std.proofs.lemmas.Bool.{eqb-false}
use Rattle.std.proofs.Math.Dec.{eqb}
use Rattle.std.proofs.Math.IntN.{pos}
use Rattle.layouts.specs.Limits as limit
use Rattle.layouts.specs.Layout.{Vertex, Layout, VertexWithin, EachWithin, none, more, Within, magnitude, whole}
use Rattle.put_text.specs.Decimal.{decimal}
use Rattle.layout_text.specs.Form.{whole_text, vertex_text, vertices_text, text_of}
use Rattle.layout_text.specs.Workings.Reader.{
  Got,
  nothing,
  got,
  and_then,
  kind_of,
  first_kind,
  digits_of,
  positive_of,
  zero_of,
  count_of,
}
use Rattle.layout_text.specs.Workings.Reader.{whole_of, vertex_of, vertices_of, lines_of, space, newline, minus, other}
use Rattle.put_text.specs.Laws.Decimal.{decimal-small, decimal-more}
use Rattle.layout_text.specs.Laws.Bytes.{byte_of, byte-is, digit-byte}
use Rattle.layout_text.specs.Laws.Complete.{counts-then}

-- ---- steps

-- `nothing` is never `got`
never : {A P : Type 0} {a : A} {rest : List ℕ} → ◌≡◌ {A = Got A} nothing (got a rest) → P
never e = let z : ◌≡◌ {A = ℕ} 0 1 = cc in absurd (omega arith)

-- both of two steps got something
pub record Both {A B : Type 0} (g : Got A) (next : A → List ℕ → Got B) (b : B) (rest : List ℕ) : Type 0 where
  pub a : A
  pub between : List ℕ
  pub one : g ≡ got a between
  pub two : next a between ≡ got b rest

both : {A B : Type 0} (g : Got A) (next : A → List ℕ → Got B) {b : B} {rest : List ℕ} → and_then g next ≡ got b rest
    → Both g next b rest
both nothing next e = never e
both (got a r) next e = record { a = a; between = r; one = refl; two = e }

-- ---- digits

-- the digits of n and then the text are the digits of m, the byte that ends them, and the rest
pub record Spelt (negative : Bool) (most end n : ℕ) (text : List ℕ) (z : ℤ) (rest : List ℕ) : Type 0 where
  pub m : ℕ
  pub is : z ≡ whole negative m
  pub fits : m ≤ most
  pub grown : n ≤ m
  pub spelt : decimal n ++ text ≡ decimal m ++ (byte_of end ∷ rest)

module _ (negative : Bool) (most end : ℕ) (known : end < other) {z : ℤ} {rest : List ℕ} where
  digits-spelt : (text : List ℕ) (n : ℕ) → 0 < n → n ≤ most → digits_of negative most end n text ≡ got z rest
      → Spelt negative most end n text z rest
  unfolding digits_of
  digits-spelt [] n p h e = never e
  digits-spelt (b ∷ t) n p h e =
      go (ltb 9 (kind_of b)) (nltb→le 9 (kind_of b)) (eqb (kind_of b) end) (eqb→eq (kind_of b) end)
      (ltb most (n * 10 + kind_of b)) (nltb→le most (n * 10 + kind_of b)) (digits-spelt t (n * 10 + kind_of b)) e
    where
      go : (mark : Bool) → (T (not mark) → kind_of b ≤ 9) → (ended : Bool) → (T ended → kind_of b ≡ end)
          → (beyond : Bool) → (T (not beyond) → n * 10 + kind_of b ≤ most)
          → (0 < n * 10 + kind_of b → n * 10 + kind_of b ≤ most → digits_of negative most end (n * 10 + kind_of b) t ≡ got z rest
          → Spelt negative most end (n * 10 + kind_of b) t z rest)
          → cond mark (cond ended (got (whole negative n) t) nothing)
          (cond beyond nothing (digits_of negative most end (n * 10 + kind_of b) t)) ≡ got z rest
          → Spelt negative most end n (b ∷ t) z rest
      go true digit true ended beyond within longer e =
          let same : t ≡ rest = cc in
          record { m = n; is = cc; fits = h; grown = omega arith; spelt = rw (byte-is b end known (ended tt), same) }
      go true digit false ended beyond within longer e = never e
      go false digit ended is true within longer e = never e
      go false digit ended is false within longer e =
          let d = digit tt in
          let below : kind_of b < 10 = omega arith in
          let s = longer (omega arith) (within tt) e in
          let one : decimal n ++ (b ∷ t) ≡ decimal (n * 10 + kind_of b) ++ t =
          ap (λ (c : ℕ). decimal n ++ (c ∷ t)) (digit-byte b below)
          ∙ sym (append_assoc (decimal n) ((48 + kind_of b) ∷ []) t)
          ∙ ap (λ (l : List ℕ). l ++ t) (sym (decimal-more n (kind_of b) p below)) in
          record { m = s.m; is = s.is; fits = s.fits; grown = omega (arith, s.grown); spelt = one ∙ s.spelt }

  -- the first digit of a number above 0, then the others
  first-spelt : (b : ℕ) (t : List ℕ) → 0 < kind_of b → kind_of b < 10 → digits_of negative most end 0 (b ∷ t) ≡ got z rest
      → Spelt negative most end (kind_of b) t z rest
  unfolding digits_of
  first-spelt b t p h e =
      let low : kind_of b ≤ 9 = omega arith in
      let one : 0 * 10 + kind_of b ≡ kind_of b = omega arith in
      go (ltb most (kind_of b)) (nltb→le most (kind_of b)) (rw (le-ltb _ _ low, one) at e)
    where
      go : (beyond : Bool) → (T (not beyond) → kind_of b ≤ most)
          → cond beyond nothing (digits_of negative most end (kind_of b) t) ≡ got z rest
          → Spelt negative most end (kind_of b) t z rest
      go true within e = never e
      go false within e = digits-spelt t (kind_of b) p (within tt) e

-- a number and its text
pub record Number (negative : Bool) (most end : ℕ) (text : List ℕ) (z : ℤ) (rest : List ℕ) : Type 0 where
  pub m : ℕ
  pub is : z ≡ whole negative m
  pub fits : m ≤ most
  pub above : 0 < m
  pub spelt : text ≡ decimal m ++ (byte_of end ∷ rest)

module _ (negative : Bool) (most end : ℕ) (known : end < other) {z : ℤ} {rest : List ℕ} where
  positive-spelt : (text : List ℕ) → positive_of negative most end text ≡ got z rest → Number negative most end text z rest
  unfolding positive_of first_kind
  positive-spelt [] e = never e
  positive-spelt (b ∷ t) e = go (eqb (kind_of b) 0) refl (ltb 9 (kind_of b)) (nltb→le 9 (kind_of b)) e
    where
      go : (lead : Bool) → eqb (kind_of b) 0 ≡ lead → (mark : Bool) → (T (not mark) → kind_of b ≤ 9)
          → cond lead nothing (cond mark nothing (digits_of negative most end 0 (b ∷ t))) ≡ got z rest
          → Number negative most end (b ∷ t) z rest
      go true same mark digit e = never e
      go false same true digit e = never e
      go false same false digit e =
          let d = digit tt in
          let below : kind_of b < 10 = omega arith in
          let above : 0 < kind_of b = pos_of_ne-zero (eqb-false (kind_of b) 0 same) in
          let s = first-spelt negative most end known b t above below e in
          let first : b ∷ t ≡ (48 + kind_of b) ∷ t = ap (λ (c : ℕ). c ∷ t) (digit-byte b below) in
          let one : b ∷ t ≡ decimal (kind_of b) ++ t = rw (decimal-small (kind_of b) below) first in
          record { m = s.m; is = s.is; fits = s.fits; above = omega (arith, s.grown); spelt = one ∙ s.spelt }

-- ---- numbers, with the byte that ends them

abbrev ByteText : ℕ → ℕ → List ℕ → ℤ → List ℕ → Type 0
ByteText most end text z rest = (text ≡ whole_text z ++ (byte_of end ∷ rest)) × (magnitude z ≤ most)

abbrev CountText : ℕ → ℕ → List ℕ → ℤ → List ℕ → Type 0
CountText most end text z rest =
    (text ≡ decimal (magnitude z) ++ (byte_of end ∷ rest)) × (magnitude z ≤ most) × (z ≡ pos (magnitude z))

-- the text of a number without a minus is its digits
count-as : (most end m : ℕ) (text rest : List ℕ) (z : ℤ) → z ≡ pos m → m ≤ most → text ≡ decimal m ++ (byte_of end ∷ rest)
    → CountText most end text z rest
count-as most end m text rest z e h t = rw e (t, h, refl)

plain-text : (z : ℤ) → z ≡ pos (magnitude z) → whole_text z ≡ decimal (magnitude z)
unfolding whole_text
plain-text z e = ap whole_text e

minus-text : (m : ℕ) → 0 < m → (z : ℤ) → z ≡ whole true m → (magnitude z ≡ m) × (whole_text z ≡ 45 ∷ decimal m)
unfolding whole_text
minus-text zero p z e = absurd (omega arith)
minus-text (suc m) p z e = rw e (refl, refl)

minus-first : (text : List ℕ) → first_kind text ≡ minus → text ≡ 45 ∷ drop 1 text
unfolding first_kind byte_of
minus-first [] k = absurd (omega (arith, k))
minus-first (b ∷ t) k = ap (λ (c : ℕ). c ∷ t) (byte-is b minus (omega arith) k)

module _ (most end : ℕ) (known : end < other) {z : ℤ} {rest : List ℕ} where
  -- the text after a 0
  zero-spelt : (t : List ℕ) → zero_of end t ≡ got z rest → (t ≡ byte_of end ∷ rest) × (z ≡ pos 0)
  unfolding zero_of first_kind
  zero-spelt [] e = go (eqb other end) (eqb→eq other end) e
    where
      go : (ended : Bool) → (T ended → other ≡ end) → cond ended (got (pos 0) []) nothing ≡ got z rest
          → ([] ≡ byte_of end ∷ rest) × (z ≡ pos 0)
      go true ended e = let k = ended tt in absurd (omega arith)
      go false ended e = never e
  zero-spelt (b ∷ t) e = go (eqb (kind_of b) end) (eqb→eq (kind_of b) end) e
    where
      go : (ended : Bool) → (T ended → kind_of b ≡ end) → cond ended (got (pos 0) t) nothing ≡ got z rest
          → (b ∷ t ≡ byte_of end ∷ rest) × (z ≡ pos 0)
      go true ended e =
          let same : t ≡ rest = cc in
          (rw (byte-is b end known (ended tt), same), cc)
      go false ended e = never e

  pub count-spelt : (text : List ℕ) → count_of most end text ≡ got z rest → CountText most end text z rest
  unfolding count_of first_kind positive_of
  count-spelt [] e = never e
  count-spelt (b ∷ t) e = go (eqb (kind_of b) 0) (eqb→eq (kind_of b) 0) e
    where
      go : (lead : Bool) → (T lead → kind_of b ≡ 0) → cond lead (zero_of end t) (positive_of false most end (b ∷ t)) ≡ got z rest
          → CountText most end (b ∷ t) z rest
      go true lead e =
          let k = lead tt in
          let s = zero-spelt t e in
          let is_zero : b ≡ 48 = digit-byte b (omega arith) ∙ ap (λ (d : ℕ). 48 + d) k in
          count-as most end 0 (b ∷ t) rest z s.1 (omega arith) (rw (decimal-small 0 (omega arith), is_zero, s.0))
      go false lead e =
          let s = positive-spelt false most end known (b ∷ t) e in
          count-as most end s.m (b ∷ t) rest z s.is s.fits s.spelt

  pub whole-spelt : (text : List ℕ) → whole_of most end text ≡ got z rest → ByteText most end text z rest
  unfolding whole_of
  whole-spelt text e = go (eqb (first_kind text) minus) (eqb→eq (first_kind text) minus) e
    where
      go : (lead : Bool) → (T lead → first_kind text ≡ minus)
          → cond lead (positive_of true most end (drop 1 text)) (count_of most end text) ≡ got z rest
          → ByteText most end text z rest
      go true lead e =
          let s = positive-spelt true most end known (drop 1 text) e in
          let shown = minus-text s.m s.above z s.is in
          (minus-first text (lead tt) ∙ rw shown.1 (ap (λ (l : List ℕ). 45 ∷ l) s.spelt), omega (arith, shown.0, s.fits))
      go false lead e =
          let s = count-spelt text e in
          (s.0 ∙ ap (λ (l : List ℕ). l ++ (byte_of end ∷ rest)) (sym (plain-text z s.2)), s.1)

-- ---- text lines

is-space : byte_of space ≡ 32
unfolding byte_of
is-space = refl

is_newline : byte_of newline ≡ 10
unfolding byte_of
is_newline = refl

-- what holds for one result and its rest holds for an equal one
carried : {A : Type 0} (P : A → List ℕ → Type 0) {a b : A} {s t : List ℕ} → got a s ≡ got b t → P a s → P b t
carried {A} P {a} {b} {s} {t} e h =
    let same : a ≡ b = cc in
    let rest : s ≡ t = cc in
    subst (λ (x : A). P x t) same (subst (λ (r : List ℕ). P a r) rest h)

abbrev VertexLine : List ℕ → List ℕ → Vertex → Type 0
VertexLine text rest v = (text ≡ vertex_text v ++ rest) × VertexWithin v

-- three numbers, each with the byte that ends it, are a text line
line-spelt : (text t1 t2 rest : List ℕ) (x y b : ℤ) → ByteText limit.coordinate space text x t1
    → ByteText limit.coordinate space t1 y t2
    → ByteText limit.bulge newline t2 b rest → VertexLine text rest (record { x = x; y = y; bulge = b })
unfolding vertex_text byte_of
line-spelt text t1 t2 rest x y b sx sy sb =
    let second = ap (λ (l : List ℕ). whole_text x ++ (32 ∷ l)) sy.0 in
    let third = ap (λ (l : List ℕ). whole_text x ++ (32 ∷ (whole_text y ++ (32 ∷ l)))) sb.0 in
    (sx.0 ∙ second ∙ third ∙ simp append_assoc, record { x-within = sx.1; y-within = sy.1; bulge-within = sb.1 })

pub vertex-spelt : (text : List ℕ) {v : Vertex} {rest : List ℕ} → vertex_of text ≡ got v rest → VertexLine text rest v
unfolding vertex_of
vertex-spelt text {v} {rest} e =
    let sx = both (whole_of limit.coordinate space text) _ e in
    let sy = both (whole_of limit.coordinate space sx.between) _ sx.two in
    let sb = both (whole_of limit.bulge newline sy.between) _ sy.two in
    carried (λ w r. VertexLine text r w) sb.two
    (line-spelt text sx.between sy.between sb.between sx.a sy.a sb.a
    (whole-spelt limit.coordinate space (omega arith) text sx.one)
    (whole-spelt limit.coordinate space (omega arith) sx.between sy.one)
    (whole-spelt limit.bulge newline (omega arith) sy.between sb.one))

pub record VerticesLines (n : ℕ) (text rest : List ℕ) (vs : List Vertex) : Type 0 where
  pub spelt : text ≡ vertices_text vs ++ rest
  pub within : EachWithin vs
  pub count : length vs ≡ n

no_lines : (text : List ℕ) → VerticesLines 0 text text []
unfolding vertices_text
no_lines text = record { spelt = refl; within = none; count = refl }

more-lines : (n : ℕ) (text between rest : List ℕ) (v : Vertex) (vs : List Vertex) → VertexLine text between v
    → VerticesLines n between rest vs
    → VerticesLines (suc n) text rest (v ∷ vs)
unfolding vertices_text
more-lines n text between rest v vs line lines =
    record {
      spelt =
          line.0
          ∙ ap (λ (l : List ℕ). vertex_text v ++ l) lines.spelt
          ∙ sym (append_assoc (vertex_text v) (vertices_text vs) rest);
      within = more line.1 lines.within;
      count = ap suc lines.count;
    }

pub vertices-spelt : (n : ℕ) (text : List ℕ) {vs : List Vertex} {rest : List ℕ} → vertices_of n text ≡ got vs rest
    → VerticesLines n text rest vs
unfolding vertices_of
vertices-spelt zero text e = carried (λ us r. VerticesLines 0 text r us) e (no_lines text)
vertices-spelt (suc k) text e =
    let s = both (vertex_of text) _ e in
    let t = both (vertices_of k s.between) _ s.two in
    carried (λ us r. VerticesLines (suc k) text r us) t.two
    (more-lines k text s.between t.between s.a t.a
    (vertex-spelt text s.one) (vertices-spelt k s.between t.one))

-- ---- a text

abbrev LayoutText : List ℕ → List ℕ → Layout → Type 0
LayoutText text rest l = (text ≡ text_of l ++ rest) × Within l

layout-text : (text t1 t2 t3 rest : List ℕ) (n m : ℤ) (first second : List Vertex)
    → CountText limit.vertices space text n t1 → CountText limit.vertices newline t1 m t2
    → VerticesLines (magnitude n) t2 t3 first → VerticesLines (magnitude m) t3 rest second
    → LayoutText text rest (record { first = first; second = second })
unfolding text_of byte_of
layout-text text t1 t2 t3 rest n m first second cn cm lf ls =
    let one = ap (λ (l : List ℕ). decimal (magnitude n) ++ (32 ∷ l)) cm.0 in
    let lines = lf.spelt ∙ ap (λ (l : List ℕ). vertices_text first ++ l) ls.spelt in
    let two = ap (λ (l : List ℕ). decimal (magnitude n) ++ (32 ∷ (decimal (magnitude m) ++ (10 ∷ l)))) lines in (
      cn.0 ∙ one ∙ two ∙ sym (
          rw (lf.count, ls.count)
          (simp append_assoc (counts-then (magnitude n) (magnitude m) (vertices_text first ++ (vertices_text second ++ rest))))),
      record {
        first_count = rw lf.count cn.1;
        second-count = rw ls.count cm.1;
        first-each = lf.within;
        second-each = ls.within;
      },
    )

pub lines-spelt : (text : List ℕ) {l : Layout} {rest : List ℕ} → lines_of text ≡ got l rest → LayoutText text rest l
unfolding lines_of
lines-spelt text e =
    let sn = both (count_of limit.vertices space text) _ e in
    let sm = both (count_of limit.vertices newline sn.between) _ sn.two in
    let sf = both (vertices_of (magnitude sn.a) sm.between) _ sm.two in
    let ss = both (vertices_of (magnitude sm.a) sf.between) _ sf.two in
    carried (λ l r. LayoutText text r l) ss.two
    (layout-text text sn.between sm.between sf.between ss.between sn.a sm.a sf.a ss.a
    (count-spelt limit.vertices space (omega arith) text sn.one)
    (count-spelt limit.vertices newline (omega arith) sn.between sm.one)
    (vertices-spelt (magnitude sn.a) sm.between sf.one)
    (vertices-spelt (magnitude sm.a) sf.between ss.one))
