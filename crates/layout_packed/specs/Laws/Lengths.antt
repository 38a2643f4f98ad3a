-- How many bytes sound numbers have at most, and those of vertices that are all the same.
use Rattle.std.specs.Prelude.{ℕ, zero, suc, ◌+◌, ◌*◌, ◌/◌, ◌≤◌, ◌≡◌, refl, List, [], ◌∷◌, ◌++◌, length, replicate}
use Rattle.std.proofs.Common.{ap, ◌∙◌, arith, length-append}
use Rattle.std.proofs.lemmas.List.{length-replicate}
use Rattle.layouts.specs.Limits as limit
use Rattle.layouts.specs.Layout.{Vertex}
use Rattle.layout_packed.specs.Limits as written
use Rattle.layout_packed.specs.Groups.{groups_in, groups_of}
use Rattle.layout_packed.specs.Packed.{vertex_numbers, vertices_numbers, joined, packed_of}
use Rattle.layout_packed.specs.Fault.{Sound, unread, read, vertex_limits, vertices_limits, limits_of}
use Rattle.layout_packed.specs.Laws.Groups.{by-groups}
use Rattle.layout_packed.specs.Laws.Put.{groups-one, groups-next, groups-some}
use Rattle.layout_packed.specs.Laws.Vertices.{joined-append}

-- a smaller number has no more groups
pub groups-mono : (n m : ℕ) → n ≤ m → length (groups_of n) ≤ length (groups_of m)
groups-mono =
    by-groups (λ n. (m : ℕ) → n ≤ m → length (groups_of n) ≤ length (groups_of m))
    (λ n small m h. omega (arith, groups-one n small, groups-some m))
    (λ n large later m h. omega (arith, groups-next n large, groups-next m (omega arith), later (m / 128) (omega arith)))

-- the bytes of the largest numbers
pub sound-long : {limits numbers due : List ℕ} → Sound limits numbers due → length (joined numbers) ≤ length (joined limits)
unfolding joined
sound-long unread = omega arith
sound-long (read {most = most} {n = n} {limits = limits} {numbers = ns} h s) =
    let one = groups-mono n most h in
    let later = sound-long s in
    simp length-append (omega arith)

vertex-long : length (joined vertex_limits) ≡ written.vertex_bytes
unfolding joined groups_of groups_in
vertex-long = refl

pub counts-long : length (groups_of limit.vertices) ≡ written.count_bytes
unfolding groups_of groups_in
counts-long = refl

vertices-long : (n : ℕ) → length (joined (vertices_limits n)) ≡ n * written.vertex_bytes
unfolding joined
vertices-long zero = refl
vertices-long (suc n) =
    let later = vertices-long n in
    let both = length-append (joined vertex_limits) (joined (vertices_limits n)) in
    ap length (joined-append vertex_limits (vertices_limits n)) ∙ omega (arith, vertex-long, both, later)

limits-long : (n m : ℕ) (rest : List ℕ) → n ≤ limit.vertices → m ≤ limit.vertices
    → length (joined (limits_of (n ∷ m ∷ rest))) ≤ written.longest
unfolding joined
limits-long n m rest h g =
    let both = length-append (joined (vertices_limits n)) (joined (vertices_limits m)) in
    let whole = joined-append (vertices_limits n) (vertices_limits m) in
    simp (length-append, whole) (omega (arith, counts-long, vertices-long n, vertices-long m))

-- sound numbers of a layout
pub numbers-long : (ns : List ℕ) {due : List ℕ} → Sound (limits_of ns) ns due → length (joined ns) ≤ written.longest
unfolding joined
numbers-long [] s = omega arith
numbers-long (n ∷ []) (read h s) =
    let one = groups-mono n limit.vertices h in
    simp length-append (omega (arith, counts-long))
numbers-long (n ∷ m ∷ ns) (read h (read g s)) =
    let whole = sound-long (read h (read g s)) in
    omega (arith, limits-long n m ns h g, whole)

-- ---- two paths of n copies of a vertex

same-long : (n : ℕ) (v : Vertex) → length (joined (vertices_numbers (replicate n v))) ≡ n * length (joined (vertex_numbers v))
unfolding joined
same-long zero v = omega arith
same-long (suc n) v =
    let later = same-long n v in
    let both = length-append (joined (vertex_numbers v)) (joined (vertices_numbers (replicate n v))) in
    ap length (joined-append (vertex_numbers v) (vertices_numbers (replicate n v))) ∙ omega (arith, both, later)

packed-long : (n k : ℕ) (path : List ℕ) → length (joined path) ≡ k
    → length (joined (n ∷ n ∷ (path ++ path))) ≡ 2 * length (groups_of n) + 2 * k
unfolding joined
packed-long n k path e = simp (joined-append path path, length-append) (omega (arith, e))

pub copies-long : (n : ℕ) (v : Vertex) (k : ℕ) → length (joined (vertex_numbers v)) ≡ k
    → length (packed_of (record { first = replicate n v; second = replicate n v })) ≡ 2 * length (groups_of n) + 2 * (n * k)
unfolding packed_of
copies-long n v k e =
    let path = same-long n v ∙ ap (λ (j : ℕ). n * j) e in
    rw (length-replicate n v) (packed-long n (n * k) (vertices_numbers (replicate n v)) path)
