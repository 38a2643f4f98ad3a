-- The length of a text: that of a layout within the limits has at most 12,808 bytes. So none is refused for its length.
use Rattle.std.specs.Prelude.{ℕ, suc, ◌*◌, ◌^◌, ◌≤◌, ◌<◌, ◌≡◌, refl, List, [], ◌∷◌, length, ℤ, pos, negsuc}
use Rattle.std.proofs.Common.{arith, length-append}
use Rattle.layouts.specs.Limits as limit
use Rattle.layouts.specs.Layout.{Vertex, Layout, VertexWithin, EachWithin, none, more, Within, magnitude}
use Rattle.put_text.specs.Laws.Decimal.{decimal-long}
use Rattle.layout_text.specs.Form.{whole_text, vertex_text, vertices_text, counts_text, text_of, bytes}
use Rattle.layout_text.specs.Sizes.{coordinate, bulge, counts_line, vertex_line, longest}

pub longest-is : longest ≡ 12808
longest-is = refl

-- ---- numbers

whole_long : (k : ℕ) (z : ℤ) → magnitude z < 10 ^ suc k → length (whole_text z) ≤ suc (suc k)
unfolding whole_text
whole_long k (pos n) h = omega (arith, decimal-long k n h)
whole_long k (negsuc n) h = omega (arith, decimal-long k (suc n) h)

pub coordinate-long : (z : ℤ) → magnitude z ≤ limit.coordinate → length (whole_text z) ≤ coordinate
coordinate-long z h = whole_long 6 z (omega arith)

pub bulge-long : (z : ℤ) → magnitude z ≤ limit.bulge → length (whole_text z) ≤ bulge
bulge-long z h = whole_long 4 z (omega arith)

-- ---- text lines

pub vertex-long : (v : Vertex) → VertexWithin v → length (vertex_text v) ≤ vertex_line
unfolding vertex_text
vertex-long v w =
    let x = coordinate-long v.x w.x-within in
    let y = coordinate-long v.y w.y-within in
    let b = bulge-long v.bulge w.bulge-within in
    simp length-append (omega arith)

pub vertices-long : (vs : List Vertex) → EachWithin vs → length (vertices_text vs) ≤ length vs * vertex_line
unfolding vertices_text
vertices-long [] none = omega arith
vertices-long (v ∷ vs) (more w ws) =
    let one = vertex-long v w in
    let rest = vertices-long vs ws in
    simp length-append (omega arith)

pub counts-long : (n m : ℕ) → n ≤ limit.vertices → m ≤ limit.vertices → length (counts_text n m) ≤ counts_line
unfolding counts_text
counts-long n m h k =
    let one = decimal-long 2 n (omega arith) in
    let two = decimal-long 2 m (omega arith) in
    simp length-append (omega arith)

-- ---- a text

pub text-long : (l : Layout) → Within l → length (text_of l) ≤ longest
unfolding text_of
text-long l w =
    let counts = counts-long (length l.first) (length l.second) w.first_count w.second-count in
    let first = vertices-long l.first w.first-each in
    let second = vertices-long l.second w.second-each in
    simp length-append (omega (arith, w.first_count, w.second-count))

-- so the limit on a text's bytes excludes no layout
pub text-short : (l : Layout) → Within l → length (text_of l) ≤ bytes
text-short l w = omega (arith, text-long l w)
