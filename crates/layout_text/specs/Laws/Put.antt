-- The text of a layout, put part by part: a whole number by its sign and its magnitude, the text lines, and all of them.
use Prim.Native.Nat.{ℕ, zero, suc, ◌≤◌}
use Rattle.std.specs.Prelude.{◌≡◌, Bool, List, [], ◌∷◌, length}
use Rattle.std.proofs.Math.Path.{refl}
use Rattle.std.proofs.Common.{ap}
use Rattle.std.proofs.Math.Bool.{true, false}
use Rattle.layouts.specs.Limits as limit
use Rattle.layouts.specs.Layout.{Vertex, VertexWithin, whole, signed, whole_vertex}
use Rattle.layouts.specs.declared.vertex.Corner.{Corner}
use Rattle.put_text.specs.Decimal.{decimal}
use Rattle.put_text.specs.Workings.Put.{Put, PutIn}
use Rattle.put_text.specs.Laws.Put.{put-join, word_in}
use Rattle.layout_text.specs.Form.{whole_text, vertex_text, vertices_text, counts_text, text_of}
use Rattle.layout_text.specs.Sizes.{coordinate, bulge, counts_line, vertex_line}
use Rattle.layout_text.specs.Long.{coordinate-long, bulge-long, vertex-long, counts-long}

-- ---- a whole number

-- how its digits are put: those of 0, of a number without a minus, and of one with a minus
module _ (negative : Bool) (n : ℕ) where
  zero-text : n ≡ 0 → whole_text (whole negative n) ≡ decimal n
  unfolding whole_text
  zero-text = go negative
    where
      go : (s : Bool) → n ≡ 0 → whole_text (whole s n) ≡ decimal n
      go false e = refl
      go true e = rw e

  plain-text : negative ≡ false → whole_text (whole negative n) ≡ decimal n
  unfolding whole_text
  plain-text e = rw e

  minus-text : negative ≡ true → (n ≡ 0 → ⊥) → whole_text (whole negative n) ≡ 45 ∷ decimal n
  unfolding whole_text
  minus-text e = rw e (go n)
    where
      go : (k : ℕ) → (k ≡ 0 → ⊥) → whole_text (whole true k) ≡ 45 ∷ decimal k
      go zero h = absurd (h refl)
      go (suc k) h = refl

  module _ {o now : List ℕ} {at next : ℕ} (digits : Put (decimal n) o at now next) where
    pub zero-put : n ≡ 0 → Put (whole_text (whole negative n)) o at now next
    zero-put e = rw (zero-text e) digits

    pub plain-put : negative ≡ false → Put (whole_text (whole negative n)) o at now next
    plain-put e = rw (plain-text e) digits

  pub minus-put : negative ≡ true → (n ≡ 0 → ⊥) → {o o1 o2 : List ℕ} {at p next : ℕ}
      → Put (45 ∷ []) o at o1 p → Put (decimal n) o1 p o2 next → Put (whole_text (whole negative n)) o at o2 next
  minus-put e h sign digits = rw (minus-text e h) (put-join sign digits)

  -- how many bytes there are
  pub zero-length : n ≡ 0 → length (whole_text (whole negative n)) ≡ length (decimal n)
  zero-length e = ap length (zero-text e)

  pub plain-length : negative ≡ false → length (whole_text (whole negative n)) ≡ length (decimal n)
  plain-length e = ap length (plain-text e)

  pub minus-length : negative ≡ true → (n ≡ 0 → ⊥) → length (whole_text (whole negative n)) ≡ suc (length (decimal n))
  minus-length e h = ap length (minus-text e h)

-- ---- text lines

-- the room that each of a vertex's numbers takes at most
pub record Parts (v : Corner) : Type 0 where
  pub x-short : length (whole_text (signed v.x)) ≤ coordinate
  pub y-short : length (whole_text (signed v.y)) ≤ coordinate
  pub b-short : length (whole_text (signed v.bulge)) ≤ bulge

pub parts-of : (v : Corner) → VertexWithin (whole_vertex v) → Parts v
parts-of v w =
    record {
      x-short = coordinate-long (signed v.x) w.x-within;
      y-short = coordinate-long (signed v.y) w.y-within;
      b-short = bulge-long (signed v.bulge) w.bulge-within;
    }

pub vertex-put : (v : Corner) → VertexWithin (whole_vertex v)
    → {o o1 o2 o3 o4 o5 o6 : List ℕ} {at p1 p2 p3 p4 p5 p6 : ℕ}
    → Put (whole_text (signed v.x)) o at o1 p1 → Put (32 ∷ []) o1 p1 o2 p2
    → Put (whole_text (signed v.y)) o2 p2 o3 p3 → Put (32 ∷ []) o3 p3 o4 p4
    → Put (whole_text (signed v.bulge)) o4 p4 o5 p5 → Put (10 ∷ []) o5 p5 o6 p6
    → PutIn vertex_line (vertex_text (whole_vertex v)) o at o6 p6
unfolding vertex_text
vertex-put v w put-x gap put-y gap2 put_b end =
    word_in vertex_line (put-join (put-join (put-join put-x (put-join gap put-y)) (put-join gap2 put_b)) end) (vertex-long _ w)

pub counts-put : (n m : ℕ) → n ≤ limit.vertices → m ≤ limit.vertices
    → {o o1 o2 o3 o4 : List ℕ} {at p1 p2 p3 p4 : ℕ}
    → Put (decimal n) o at o1 p1 → Put (32 ∷ []) o1 p1 o2 p2
    → Put (decimal m) o2 p2 o3 p3 → Put (10 ∷ []) o3 p3 o4 p4
    → PutIn counts_line (counts_text n m) o at o4 p4
unfolding counts_text
counts-put n m hn hm put-n gap put-m end =
    word_in counts_line (put-join (put-join put-n (put-join gap put-m)) end) (counts-long n m hn hm)

-- ---- a text

pub text-put : (n m : ℕ) (first second : List Vertex) → length first ≡ n → length second ≡ m
    → {o o1 o2 o3 : List ℕ} {p1 p2 p3 : ℕ}
    → Put (counts_text n m) o 0 o1 p1 → Put (vertices_text first) o1 p1 o2 p2 → Put (vertices_text second) o2 p2 o3 p3
    → Put (text_of (record { first = first; second = second })) o 0 o3 p3
unfolding text_of
text-put n m first second en em counts one two = rw (en, em) (put-join (put-join counts one) two)
