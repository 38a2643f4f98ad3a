-- The text of a path, put part by part, and how many bytes its parts have.
use Rattle.std.specs.Prelude.{◌≡◌, ℕ, zero, suc, ◌+◌, ◌/◌, ◌%◌, ◌^◌, ◌<◌, ◌≤◌, Bool, true, false, List, [], ◌∷◌, ◌++◌, length, ◌≢◌, slice_set}
use Rattle.std.proofs.Math.Path.{refl, ap}
use Rattle.std.proofs.Common.{◌∙◌, arith}
use Rattle.std.proofs.Math.ListN.{length-append}
use Rattle.layouts.specs.Layout.{whole}
use Rattle.put_text.specs.Decimal.{decimal, decimal_in}
use Rattle.put_text.specs.Workings.Put.{Put}
use Rattle.put_text.specs.Laws.Decimal.{decimal-long}
use Rattle.put_text.specs.Laws.Put.{put-join}
use Rattle.dxf_form.specs.Numbers.{million}
use Rattle.dxf_form.specs.Form.{x_code, y_code, bulge_code}
use Rattle.dxf_write.specs.Written.{digit, six_digits, size_bytes, number_bytes, group_bytes, vertex_bytes}
use Rattle.dxf_write.specs.Workings.Told.{corner_by}
use Rattle.dxf_write.specs.declared.millionths.Vertex.{Vertex}

-- ---- six digits

one_at : (o : List ℕ) (at next b : ℕ) → next ≡ at + 1 → Put (b ∷ []) o at (slice_set o at b) next
one_at o at next b e = record { holds = refl; after = e }

module _ (n : ℕ) (o : List ℕ) (at a b c d e f : ℕ) where
  pub six-put : a ≡ digit (n / 100_000) → b ≡ digit (n / 10_000) → c ≡ digit (n / 1_000) → d ≡ digit (n / 100)
      → e ≡ digit (n / 10) → f ≡ digit n
      → Put (six_digits n) o at
      (slice_set (slice_set (slice_set (slice_set (slice_set (slice_set o at a) (at + 1) b) (at + 2) c) (at + 3) d) (at + 4) e) (at + 5) f) (at + 6)
  unfolding six_digits
  six-put pa pb pc pd pe pf =
      rw (← pa, ← pb, ← pc, ← pd, ← pe, ← pf)
      (put-join (one_at _ at (at + 1) a (omega arith))
      (put-join (one_at _ (at + 1) (at + 2) b (omega arith))
      (put-join (one_at _ (at + 2) (at + 3) c (omega arith))
      (put-join (one_at _ (at + 3) (at + 4) d (omega arith))
      (put-join (one_at _ (at + 4) (at + 5) e (omega arith)) (one_at _ (at + 5) (at + 6) f (omega arith)))))))

-- ---- numbers

pub size-long : (n : ℕ) → length (size_bytes n) ≡ length (decimal (n / million)) + 7
unfolding size_bytes six_digits
size-long n = length-append (decimal (n / million)) (46 ∷ six_digits (n % million))

pub size-put : (n : ℕ) {o o1 o2 o3 : List ℕ} {at p1 p2 p3 : ℕ}
    → Put (decimal (n / million)) o at o1 p1 → Put (46 ∷ []) o1 p1 o2 p2 → Put (six_digits (n % million)) o2 p2 o3 p3
    → Put (size_bytes n) o at o3 p3
unfolding size_bytes
size-put n whole_part point digits = put-join whole_part (put-join point digits)

module _ (negative : Bool) (n : ℕ) where
  zero-bytes : n ≡ 0 → number_bytes (whole negative n) ≡ size_bytes n
  unfolding number_bytes
  zero-bytes = go negative
    where
      go : (s : Bool) → n ≡ 0 → number_bytes (whole s n) ≡ size_bytes n
      go false e = refl
      go true e = rw e

  plain-bytes : negative ≡ false → number_bytes (whole negative n) ≡ size_bytes n
  unfolding number_bytes
  plain-bytes e = rw e

  minus-bytes : negative ≡ true → (n ≢ 0) → number_bytes (whole negative n) ≡ 45 ∷ size_bytes n
  unfolding number_bytes
  minus-bytes e = rw e (go n)
    where
      go : (k : ℕ) → (k ≢ 0) → number_bytes (whole true k) ≡ 45 ∷ size_bytes k
      go zero h = absurd (h refl)
      go (suc k) h = refl

  module _ {o now : List ℕ} {at next : ℕ} (put : Put (size_bytes n) o at now next) where
    pub zero-put : n ≡ 0 → Put (number_bytes (whole negative n)) o at now next
    zero-put e = rw (zero-bytes e) put

    pub plain-put : negative ≡ false → Put (number_bytes (whole negative n)) o at now next
    plain-put e = rw (plain-bytes e) put

  pub minus-put : negative ≡ true → (n ≢ 0) → {o o1 o2 : List ℕ} {at p next : ℕ}
      → Put (45 ∷ []) o at o1 p → Put (size_bytes n) o1 p o2 next → Put (number_bytes (whole negative n)) o at o2 next
  minus-put e h sign digits = rw (minus-bytes e h) (put-join sign digits)

  pub zero-length : n ≡ 0 → length (number_bytes (whole negative n)) ≡ length (size_bytes n)
  zero-length e = ap length (zero-bytes e)

  pub plain-length : negative ≡ false → length (number_bytes (whole negative n)) ≡ length (size_bytes n)
  plain-length e = ap length (plain-bytes e)

  pub minus-length : negative ≡ true → (n ≢ 0) → length (number_bytes (whole negative n)) ≡ suc (length (size_bytes n))
  minus-length e h = ap length (minus-bytes e h)

-- a number below 2^64 has at most 28 bytes
pub number_short : (negative : Bool) (n : ℕ) → n < 2 ^ 64 → length (number_bytes (whole negative n)) ≤ 28
number_short negative n h =
    let digits = decimal-long 19 (n / million) (omega arith) in
    let size = size-long n in
    go negative n (omega arith)
  where
    go : (s : Bool) (n : ℕ) → length (size_bytes n) ≤ 27 → length (number_bytes (whole s n)) ≤ 28
    go false n l = rw (plain-length false n refl) (omega arith)
    go true zero l = rw (zero-length true 0 refl) (omega arith)
    go true (suc n) l = rw (minus-length true (suc n) refl (λ e. omega arith)) (omega arith)

-- ---- groups

pub line-long : (value : List ℕ) → length (value ++ (10 ∷ [])) ≡ length value + 1
line-long value = length-append value (10 ∷ [])

pub group-long : (code : ℕ) (value : List ℕ) → length (group_bytes code value) ≡ length (decimal code) + length value + 2
unfolding group_bytes
group-long code value =
    let a = line-long (decimal code) in
    let b = line-long value in
    let c = length-append (decimal code ++ (10 ∷ [])) (value ++ (10 ∷ [])) in
    omega (arith, a, b, c)

pub whole-group-put : (code n : ℕ) {o o1 o2 : List ℕ} {at p1 p2 : ℕ} → Put (decimal code ++ (10 ∷ [])) o at o1 p1
    → Put (decimal n ++ (10 ∷ [])) o1 p1 o2 p2 → Put (group_bytes code (decimal n)) o at o2 p2
unfolding group_bytes
whole-group-put code n a b = put-join a b

pub group-put : (code : ℕ) (value : List ℕ) {o o1 o2 o3 : List ℕ} {at p1 p2 p3 : ℕ} → Put (decimal code ++ (10 ∷ [])) o at o1 p1
    → Put value o1 p1 o2 p2 → Put (10 ∷ []) o2 p2 o3 p3 → Put (group_bytes code value) o at o3 p3
unfolding group_bytes
group-put code value a b c = put-join a (put-join b c)

-- ---- vertices

x-digits : length (decimal x_code) ≡ 2
unfolding decimal decimal_in
x-digits = refl

y-digits : length (decimal y_code) ≡ 2
unfolding decimal decimal_in
y-digits = refl

bulge-digits : length (decimal bulge_code) ≡ 2
unfolding decimal decimal_in
bulge-digits = refl

module _ (v : Vertex) where
  pub vertex-long : length (vertex_bytes (corner_by v))
      ≡ length (group_bytes x_code (number_bytes (whole v.x.negative v.x.millionths)))
      + (length (group_bytes y_code (number_bytes (whole v.y.negative v.y.millionths)))
      + length (group_bytes bulge_code (number_bytes (whole v.bulge.negative v.bulge.millionths))))
  unfolding vertex_bytes
  vertex-long =
      length-append (group_bytes x_code (number_bytes (whole v.x.negative v.x.millionths))) _
      ∙ ap (λ (k : ℕ). length (group_bytes x_code (number_bytes (whole v.x.negative v.x.millionths))) + k)
      (length-append (group_bytes y_code (number_bytes (whole v.y.negative v.y.millionths))) (group_bytes bulge_code (number_bytes (whole v.bulge.negative v.bulge.millionths))))

  -- each code has two digits
  pub vertex-size : length (vertex_bytes (corner_by v))
      ≡ length (number_bytes (whole v.x.negative v.x.millionths))
      + length (number_bytes (whole v.y.negative v.y.millionths))
      + length (number_bytes (whole v.bulge.negative v.bulge.millionths))
      + 12
  vertex-size =
      omega (
        arith,
        vertex-long,
        group-long x_code (number_bytes (whole v.x.negative v.x.millionths)),
        group-long y_code (number_bytes (whole v.y.negative v.y.millionths)),
        group-long bulge_code (number_bytes (whole v.bulge.negative v.bulge.millionths)),
        x-digits,
        y-digits,
        bulge-digits,
      )

  pub vertex-put : {o o1 o2 o3 : List ℕ} {at p1 p2 p3 : ℕ}
      → Put (group_bytes x_code (number_bytes (whole v.x.negative v.x.millionths))) o at o1 p1
      → Put (group_bytes y_code (number_bytes (whole v.y.negative v.y.millionths))) o1 p1 o2 p2
      → Put (group_bytes bulge_code (number_bytes (whole v.bulge.negative v.bulge.millionths))) o2 p2 o3 p3
      → Put (vertex_bytes (corner_by v)) o at o3 p3
  unfolding vertex_bytes
  vertex-put p q r = put-join p (put-join q r)
