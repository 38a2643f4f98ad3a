-- Groups that are in order give a count, flags and vertices; groups that give these are in order; and what they give is what is
-- taken of them one after the other.
use Rattle.std.specs.Prelude.{ℕ, ◌≡◌, refl, true, false, List, [], ◌∷◌, ◌++◌, ℤ, pos}
use Rattle.std.proofs.Common.{sym, ap, ◌∙◌, append-nil, append_assoc}
use Rattle.dxf_form.specs.Numbers.{Corner}
use Rattle.dxf_form.specs.Form.{Group, count, flags, x, y, bulge, other, counted, Vertices, none, straight, bent, Gives}
use Rattle.dxf_form.specs.Order.{turn_of, after, may_end, out_of_place, Ordered, more, Complete}
use Rattle.dxf_form.specs.Order.{none as in_order}
use Rattle.dxf_form.specs.Body.{Body, at_last, with_y, with_bulge, taken, taken_all, body_of}
use Rattle.dxf_form.specs.Laws.Values.{never-so}
use Rattle.dxf_form.specs.declared.order.Due.{Due}
use Rattle.dxf_form.specs.declared.order.Due.TheVariants as Due·

-- ---- groups in order give vertices: what the groups that are left give, by what is due

pub record FromCount (gs : List Group) : Type 0 where
  pub n : ℕ
  pub f : ℕ
  pub vs : List Corner
  pub gives : Gives gs n f vs

pub record FromFlags (gs : List Group) : Type 0 where
  pub f : ℕ
  pub left : List Group
  pub vs : List Corner
  pub is : counted gs ≡ flags f ∷ left
  pub vertices : Vertices left vs

pub record FromVertex (gs : List Group) : Type 0 where
  pub vs : List Corner
  pub vertices : Vertices (counted gs) vs

pub record FromY (gs : List Group) : Type 0 where
  pub vs : ℤ → List Corner
  pub vertices : (a : ℤ) → Vertices (x a ∷ counted gs) (vs a)

pub record FromBulge (gs : List Group) : Type 0 where
  pub vs : ℤ → ℤ → List Corner
  pub vertices : (a b : ℤ) → Vertices (x a ∷ y b ∷ counted gs) (vs a b)

abbrev Left : Due → List Group → Type 0
Left Due·.Count gs = FromCount gs
Left Due·.Flags gs = FromFlags gs
Left Due·.Vertex gs = FromVertex gs
Left Due·.Y gs = FromY gs
Left Due·.Bulge gs = FromBulge gs

left_end : (due : Due) → may_end due ≡ true → Left due []
left_end Due·.Count h = never-so (sym h)
left_end Due·.Flags h = never-so (sym h)
left_end Due·.Vertex h = record { vs = []; vertices = none }
left_end Due·.Y h = never-so (sym h)
left_end Due·.Bulge h = record { vs = λ a b. record { x = a; y = b; bulge = pos 0 } ∷ []; vertices = λ a b. straight none }

left-more : (due : Due) (g : Group) (gs : List Group) → out_of_place (turn_of due g) ≡ false → Left (after due (turn_of due g)) gs
    → Left due (g ∷ gs)
left-more Due·.Count (count n) gs h s =
    record {
      n = n;
      f = s.f;
      vs = s.vs;
      gives =
          record { vertex_groups = s.left; in_order = ap (λ (l : List Group). count n ∷ l) s.is; vertices = s.vertices };
    }
left-more Due·.Count (flags n) gs h s = never-so h
left-more Due·.Count (x z) gs h s = never-so h
left-more Due·.Count (y z) gs h s = never-so h
left-more Due·.Count (bulge z) gs h s = never-so h
left-more Due·.Count other gs h s =
    record {
      n = s.n;
      f = s.f;
      vs = s.vs;
      gives =
          record {
            vertex_groups = s.gives.vertex_groups;
            in_order = s.gives.in_order;
            vertices = s.gives.vertices;
          };
    }
left-more Due·.Flags (count n) gs h s = never-so h
left-more Due·.Flags (flags n) gs h s = record { f = n; left = counted gs; vs = s.vs; is = refl; vertices = s.vertices }
left-more Due·.Flags (x z) gs h s = never-so h
left-more Due·.Flags (y z) gs h s = never-so h
left-more Due·.Flags (bulge z) gs h s = never-so h
left-more Due·.Flags other gs h s = record { f = s.f; left = s.left; vs = s.vs; is = s.is; vertices = s.vertices }
left-more Due·.Vertex (count n) gs h s = never-so h
left-more Due·.Vertex (flags n) gs h s = never-so h
left-more Due·.Vertex (x z) gs h s = record { vs = s.vs z; vertices = s.vertices z }
left-more Due·.Vertex (y z) gs h s = never-so h
left-more Due·.Vertex (bulge z) gs h s = never-so h
left-more Due·.Vertex other gs h s = record { vs = s.vs; vertices = s.vertices }
left-more Due·.Y (count n) gs h s = never-so h
left-more Due·.Y (flags n) gs h s = never-so h
left-more Due·.Y (x z) gs h s = never-so h
left-more Due·.Y (y z) gs h s = record { vs = λ a. s.vs a z; vertices = λ a. s.vertices a z }
left-more Due·.Y (bulge z) gs h s = never-so h
left-more Due·.Y other gs h s = record { vs = s.vs; vertices = s.vertices }
left-more Due·.Bulge (count n) gs h s = never-so h
left-more Due·.Bulge (flags n) gs h s = never-so h
left-more Due·.Bulge (x z) gs h s =
    record {
      vs = λ a b. record { x = a; y = b; bulge = pos 0 } ∷ s.vs z;
      vertices = λ a b. straight (s.vertices z);
    }
left-more Due·.Bulge (y z) gs h s = never-so h
left-more Due·.Bulge (bulge z) gs h s =
    record { vs = λ a b. record { x = a; y = b; bulge = z } ∷ s.vs; vertices = λ a b. bent s.vertices }
left-more Due·.Bulge other gs h s = record { vs = s.vs; vertices = s.vertices }

left-of : {due next : Due} {gs : List Group} → Ordered due gs next → may_end next ≡ true → Left due gs
left-of (in_order {due}) h = left_end due h
left-of (more {due} {g = g} {gs = gs} p o) h = left-more due g gs p (left-of o h)

pub complete-gives : (gs : List Group) → Complete Due·.Count gs → FromCount gs
complete-gives gs c = left-of c.ordered c.may-end

-- ---- what groups give is what is taken of them

last_of : (f : Corner → Corner) (vs : List Corner) (v : Corner) → at_last f (vs ++ (v ∷ [])) ≡ vs ++ (f v ∷ [])
unfolding at_last
last_of f [] v = refl
last_of f (u ∷ []) v = refl
last_of f (u ∷ w ∷ vs) v = ap (λ (l : List Corner). u ∷ l) (last_of f (w ∷ vs) v)

-- groups that are skipped give nothing
taken-counted : (gs : List Group) (b : Body) → taken_all b gs ≡ taken_all b (counted gs)
unfolding taken_all taken
taken-counted [] b = refl
taken-counted (count n ∷ gs) b = taken-counted gs _
taken-counted (flags n ∷ gs) b = taken-counted gs _
taken-counted (x z ∷ gs) b = taken-counted gs _
taken-counted (y z ∷ gs) b = taken-counted gs _
taken-counted (bulge z ∷ gs) b = taken-counted gs _
taken-counted (other ∷ gs) b = taken-counted gs b

abbrev body : ℕ → ℕ → List Corner → Body
body n f vs = record { declared = n; flags-are = f; vertices = vs }

vertices-taken : (n f : ℕ) (before : List Corner) (gs : List Group) (vs : List Corner) → Vertices gs vs
    → taken_all (body n f before) gs ≡ body n f (before ++ vs)
unfolding taken_all taken
vertices-taken n f before _ _ none = ap (λ (l : List Corner). body n f l) (sym (append-nil before))
vertices-taken n f before _ _ (straight {a} {b} {gs} {vs} v) =
    rw (last_of (with_y b) before (record { x = a; y = pos 0; bulge = pos 0 }))
    (vertices-taken n f (before ++ (record { x = a; y = b; bulge = pos 0 } ∷ [])) gs vs v
    ∙ ap (λ (l : List Corner). body n f l) (append_assoc before (record { x = a; y = b; bulge = pos 0 } ∷ []) vs))
vertices-taken n f before _ _ (bent {a} {b} {c} {gs} {vs} v) =
    rw (
      last_of (with_y b) before (record { x = a; y = pos 0; bulge = pos 0 }),
      last_of (with_bulge c) before (record { x = a; y = b; bulge = pos 0 }),
    )
    (vertices-taken n f (before ++ (record { x = a; y = b; bulge = c } ∷ [])) gs vs v
    ∙ ap (λ (l : List Corner). body n f l) (append_assoc before (record { x = a; y = b; bulge = c } ∷ []) vs))

pub gives-taken : (gs : List Group) (n f : ℕ) (vs : List Corner) → Gives gs n f vs → body_of gs ≡ body n f vs
unfolding taken_all taken
gives-taken gs n f vs g =
    taken-counted gs (body 0 0 [])
    ∙ ap (taken_all (body 0 0 [])) g.in_order
    ∙ vertices-taken n f [] g.vertex_groups vs g.vertices

-- ---- groups that give vertices are in order

ordered-counted : (gs : List Group) {due next : Due} → Ordered due (counted gs) next → Ordered due gs next
ordered-counted [] o = o
ordered-counted (count n ∷ gs) (more h o) = more h (ordered-counted gs o)
ordered-counted (flags n ∷ gs) (more h o) = more h (ordered-counted gs o)
ordered-counted (x z ∷ gs) (more h o) = more h (ordered-counted gs o)
ordered-counted (y z ∷ gs) (more h o) = more h (ordered-counted gs o)
ordered-counted (bulge z ∷ gs) (more h o) = more h (ordered-counted gs o)
ordered-counted (other ∷ gs) o = more refl (ordered-counted gs o)

-- x is in its place wherever the text may end
x-next : (due : Due) (z : ℤ) {gs : List Group} → may_end due ≡ true → Complete Due·.Y gs → Complete due (x z ∷ gs)
x-next Due·.Count z h c = never-so (sym h)
x-next Due·.Flags z h c = never-so (sym h)
x-next Due·.Vertex z h c = record { next = c.next; ordered = more refl c.ordered; may-end = c.may-end }
x-next Due·.Y z h c = never-so (sym h)
x-next Due·.Bulge z h c = record { next = c.next; ordered = more refl c.ordered; may-end = c.may-end }

vertices-complete : (due : Due) → may_end due ≡ true → {gs : List Group} {vs : List Corner} → Vertices gs vs → Complete due gs
vertices-complete due h none = record { next = due; ordered = in_order; may-end = h }
vertices-complete due h (straight {a} v) =
    let c = vertices-complete Due·.Bulge refl v in
    x-next due a h (record { next = c.next; ordered = more refl c.ordered; may-end = c.may-end })
vertices-complete due h (bent {a} v) =
    let c = vertices-complete Due·.Vertex refl v in
    x-next due a h (record { next = c.next; ordered = more refl (more refl c.ordered); may-end = c.may-end })

pub gives-complete : (gs : List Group) (n f : ℕ) (vs : List Corner) → Gives gs n f vs → Complete Due·.Count gs
gives-complete gs n f vs g =
    let c = vertices-complete Due·.Vertex refl g.vertices in
    let o : Ordered Due·.Count (counted gs) c.next = rw g.in_order (more refl (more refl c.ordered)) in
    record { next = c.next; ordered = ordered-counted gs o; may-end = c.may-end }
