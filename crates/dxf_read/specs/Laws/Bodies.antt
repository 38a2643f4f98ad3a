-- What groups give is the same, as far as an import asks, if their numbers are kept.
use Rattle.std.specs.Prelude.{ℕ, ◌≡◌, refl, List, [], ◌∷◌, ◌++◌, map, eqb, length, ℤ, pos}
use Rattle.std.proofs.Common.{sym, ap, ◌∙◌}
use Rattle.std.proofs.lemmas.List.{length-map}
use Rattle.dxf_form.specs.Numbers.{Corner, path_of}
use Rattle.dxf_form.specs.Form.{Group, count, flags, x, y, bulge, other, closed_by}
use Rattle.dxf_form.specs.Body.{Body, at_last, with_y, with_bulge, taken, taken_all, empty_body, body_of}
use Rattle.dxf_read.specs.Workings.Kept.{kept, kept_whole, kept_group}
use Rattle.dxf_read.specs.Laws.Kept.{kept-zero, odd-kept, value-kept}

abbrev pub kept_corner : Corner → Corner
kept_corner v = record { x = kept_whole v.x; y = kept_whole v.y; bulge = kept_whole v.bulge }

abbrev pub kept_body : Body → Body
kept_body b =
    record { declared = kept b.declared; flags-are = kept b.flags-are; vertices = map kept_corner b.vertices }

abbrev pub kept_all : List Group → List Group
kept_all gs = map kept_group gs

-- ---- one group more

abbrev straight : ℤ → Corner
straight z = record { x = z; y = pos 0; bulge = pos 0 }

zero-whole : kept_whole (pos 0) ≡ pos 0
unfolding kept_whole
zero-whole = ap pos kept-zero

map_more : (vs : List Corner) (z : ℤ)
    → map kept_corner vs ++ (straight (kept_whole z) ∷ []) ≡ map kept_corner (vs ++ (straight z ∷ []))
map_more [] z = rw zero-whole
map_more (v ∷ vs) z = ap (λ (r : List Corner). kept_corner v ∷ r) (map_more vs z)

map-y : (z : ℤ) (vs : List Corner) → at_last (with_y (kept_whole z)) (map kept_corner vs) ≡ map kept_corner (at_last (with_y z) vs)
unfolding at_last
map-y z [] = refl
map-y z (v ∷ []) = refl
map-y z (v ∷ w ∷ rest) = ap (λ (r : List Corner). kept_corner v ∷ r) (map-y z (w ∷ rest))

map-bulge : (z : ℤ) (vs : List Corner)
    → at_last (with_bulge (kept_whole z)) (map kept_corner vs) ≡ map kept_corner (at_last (with_bulge z) vs)
unfolding at_last
map-bulge z [] = refl
map-bulge z (v ∷ []) = refl
map-bulge z (v ∷ w ∷ rest) = ap (λ (r : List Corner). kept_corner v ∷ r) (map-bulge z (w ∷ rest))

-- the same body with other vertices
abbrev with_vertices : Body → List Corner → Body
with_vertices b vs = record { declared = kept b.declared; flags-are = kept b.flags-are; vertices = vs }

taken-kept : (b : Body) (g : Group) → taken (kept_body b) (kept_group g) ≡ kept_body (taken b g)
unfolding taken
taken-kept b (count n) = refl
taken-kept b (flags n) = refl
taken-kept b (x z) = ap (with_vertices b) (map_more b.vertices z)
taken-kept b (y z) = ap (with_vertices b) (map-y z b.vertices)
taken-kept b (bulge z) = ap (with_vertices b) (map-bulge z b.vertices)
taken-kept b other = refl

-- ---- all groups

all-kept : (b : Body) (gs : List Group) → taken_all (kept_body b) (kept_all gs) ≡ kept_body (taken_all b gs)
unfolding taken_all
all-kept b [] = refl
all-kept b (g ∷ gs) = ap (λ (c : Body). taken_all c (kept_all gs)) (taken-kept b g) ∙ all-kept (taken b g) gs

pub body_kept : (gs : List Group) → taken_all empty_body (kept_all gs) ≡ kept_body (body_of gs)
body_kept gs =
    let none : kept_body empty_body ≡ empty_body = rw kept-zero in
    ap (λ (c : Body). taken_all c (kept_all gs)) (sym none) ∙ all-kept empty_body gs

-- ---- what an import asks of them

pub path-kept : (vs : List Corner) → path_of (map kept_corner vs) ≡ path_of vs
path-kept [] = refl
path-kept (v ∷ vs) = rw (value-kept v.x, value-kept v.y, value-kept v.bulge, path-kept vs)

pub closed-kept : (f : ℕ) → closed_by (kept f) ≡ closed_by f
closed-kept f = ap (λ (k : ℕ). eqb k 1) (odd-kept f)

pub many-kept : (vs : List Corner) → length (map kept_corner vs) ≡ length vs
many-kept vs = length-map vs kept_corner
