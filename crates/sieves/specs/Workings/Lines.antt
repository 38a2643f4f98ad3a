-- What the sieve of lines keeps and tests: src/lines.rt, function by function. A reader need not believe it: Laws/Lines proves
-- that what it takes away does not meet.
use Rattle.std.specs.Prelude.{◌≡◌, refl, Bool, true, false, not, cond, ◌&&◌, ◌||◌, List, ◌⊎◌, ℕ, zero, suc, ◌+◌, ◌*◌, ◌≤◌, ◌<◌, Float, length, get_or, set}
use Rattle.std.proofs.Common.{sym, ap, ◌∙◌, inl, inr, eq-or-lt_of_le, arith, length-set, get_or-set_same, get_or-set_other}
use Rattle.std.specs.Float.{nan}
use Rattle.floats.specs.Ops.{◌⊖◌, ◌⊗◌, ◌⊘◌, ◌≈◌, f0}
use Rattle.plane.specs.Fuzzy.{fuzzy_eq_zero_eps}
use Rattle.plane.specs.PlineVertex.{pos, bulge_is_zero}
use Rattle.plane.specs.Vector2 as vector2
use Rattle.plane.specs.declared.pline_vertex.PlineVertex.{PlineVertex}
use Rattle.ranges.specs.Workings.OnSegment.{usual}
use Rattle.fast_pair.specs.Workings.ClearlyApart.{quotient_outside}
use Rattle.paths.specs.declared.path.Segment.{Segment}
use Rattle.paths.specs.Segments.{segment_from}
use Rattle.sieves.specs.declared.lines.Side.{Side}

abbrev pub numbers_of_side : ℕ
numbers_of_side = 4

unfoldable pub usual_line : PlineVertex → PlineVertex → Float → Bool
usual_line v1 v2 eps = bulge_is_zero v1 && usual (vector2.length_squared (vector2.sub (pos v2) (pos v1))) eps

unfoldable pub side_of : PlineVertex → PlineVertex → Float → Side
side_of v1 v2 eps =
    cond (usual_line v1 v2 eps)
    (record { x = v1.x; y = v1.y; dx = v2.x ⊖ v1.x; dy = v2.y ⊖ v1.y })
    (record { x = v1.x; y = v1.y; dx = f0 ⊘ f0; dy = f0 ⊘ f0 })

abbrev pub side_of_segment : Segment → Float → Side
side_of_segment s eps = side_of s.v1 s.v2 eps

unfoldable pub side_at : List Float → ℕ → ℕ → Side
side_at l n j =
    record { x = get_or l j nan; y = get_or l (n + j) nan; dx = get_or l (n + n + j) nan; dy = get_or l (n + n + n + j) nan }

abbrev put_side : List Float → ℕ → ℕ → Side → List Float
put_side l n j s = set (set (set (set l j s.x) (n + j) s.y) (n + n + j) s.dx) (n + n + n + j) s.dy

-- the numbers of the first `count` of n segments
unfoldable pub keep_sides : List Float → ℕ → Float → ℕ → List Float → List Float
keep_sides path n eps zero l = l
keep_sides path n eps (suc count) l =
    put_side (keep_sides path n eps count l) n count (side_of_segment (segment_from path count) eps)

-- how many of the first `count` segments the sieve can judge
unfoldable pub judged : List Float → ℕ → ℕ → ℕ
judged l n zero = 0
judged l n (suc count) =
    let d = (side_at l n count).dx in
    cond (d ≈ d) (judged l n count + 1) (judged l n count)

pub judged-few : (l : List Float) (n count : ℕ) → judged l n count ≤ count
unfolding judged
judged-few l n zero = omega arith
judged-few l n (suc count) = go ((side_at l n count).dx ≈ (side_at l n count).dx) (judged-few l n count)
  where
    go : (b : Bool) → judged l n count ≤ count → cond b (judged l n count + 1) (judged l n count) ≤ suc count
    go true h = omega (arith, h)
    go false h = omega (arith, h)

pub judged-turn : (l : List Float) (n j : ℕ) (s : Side) (b : Bool) → s ≡ side_at l n j → (s.dx ≈ s.dx) ≡ b
    → cond b (judged l n j + 1) (judged l n j) ≡ judged l n (j + 1)
unfolding judged
judged-turn l n j s b e h =
    let next : j + 1 ≡ suc j = omega arith in
    rw next
    (ap (λ (c : Bool). cond c (judged l n j + 1) (judged l n j))
    (sym h ∙ ap (λ (t : Side). t.dx ≈ t.dx) e))

unfoldable pub sides_apart : Side → Side → Float → Bool
sides_apart v u eps =
    let wx = v.x ⊖ u.x in
    let wy = v.y ⊖ u.y in
    let d = v.dx ⊗ u.dy ⊖ v.dy ⊗ u.dx in
    let n = u.dx ⊗ wy ⊖ u.dy ⊗ wx in
    let m = v.dx ⊗ wy ⊖ v.dy ⊗ wx in
    let parallel = fuzzy_eq_zero_eps d eps in
    (parallel && not (fuzzy_eq_zero_eps n eps)) || (not parallel && (quotient_outside n d || quotient_outside m d))

-- what the sieve leaves, by what is kept
abbrev pub lines_left : Side → List Float → ℕ → Float → ℕ → Bool
lines_left v sides n eps j = not (sides_apart v (side_at sides n j) eps)

pub left-of : (v u : Side) (sides : List Float) (n j : ℕ) (eps : Float) (said : Bool) → u ≡ side_at sides n j
    → said ≡ sides_apart v u eps → not said ≡ lines_left v sides n eps j
left-of v u sides n j eps said e f = ap not (f ∙ ap (λ (s : Side). sides_apart v s eps) e)

-- ---- stored and read
put-length : (l : List Float) (n j : ℕ) (s : Side) → length (put_side l n j s) ≡ length l
put-length l n j s =
    length-set (set (set (set l j s.x) (n + j) s.y) (n + n + j) s.dx) (n + n + n + j) s.dy
    ∙ length-set (set (set l j s.x) (n + j) s.y) (n + n + j) s.dx
    ∙ length-set (set l j s.x) (n + j) s.y
    ∙ length-set l j s.x

keep-length : (path : List Float) (n : ℕ) (eps : Float) (count : ℕ) (l : List Float)
    → length (keep_sides path n eps count l) ≡ length l
unfolding keep_sides
keep-length path n eps zero l = refl
keep-length path n eps (suc count) l =
    put-length (keep_sides path n eps count l) n count _ ∙ keep-length path n eps count l

same-side : (a b : Side) → a.x ≡ b.x → a.y ≡ b.y → a.dx ≡ b.dx → a.dy ≡ b.dy → a ≡ b
same-side a b = go a.x a.y a.dx a.dy
  where
    go : (x y z w : Float) → x ≡ b.x → y ≡ b.y → z ≡ b.dx → w ≡ b.dy → record { x = x; y = y; dx = z; dy = w } ≡ b
    go x y z w e f g h = rw (e, f, g, h) refl

-- a place that none of the four stores has
other : (l : List Float) (a b c d q : ℕ) (x y z w : Float) → (q ≡ a → ⊥) → (q ≡ b → ⊥) → (q ≡ c → ⊥) → (q ≡ d → ⊥)
    → get_or (set (set (set (set l a x) b y) c z) d w) q nan ≡ get_or l q nan
other l a b c d q x y z w p r s t =
    get_or-set_other (set (set (set l a x) b y) c z) d q w nan t
    ∙ get_or-set_other (set (set l a x) b y) c q z nan s
    ∙ get_or-set_other (set l a x) b q y nan r
    ∙ get_or-set_other l a q x nan p

put_other : (l : List Float) (n i j : ℕ) (s : Side) → i < j → j < n → side_at (put_side l n j s) n i ≡ side_at l n i
unfolding side_at
put_other l n i j s h k =
    same-side _ _
    (at i (λ e. omega (arith, h, k, e)) (λ e. omega (arith, h, k, e)) (λ e. omega (arith, h, k, e))
    (λ e. omega (arith, h, k, e)))
    (at (n + i) (λ e. omega (arith, h, k, e)) (λ e. omega (arith, h, k, e)) (λ e. omega (arith, h, k, e))
    (λ e. omega (arith, h, k, e)))
    (at (n + n + i) (λ e. omega (arith, h, k, e)) (λ e. omega (arith, h, k, e)) (λ e. omega (arith, h, k, e))
    (λ e. omega (arith, h, k, e)))
    (at (n + n + n + i) (λ e. omega (arith, h, k, e)) (λ e. omega (arith, h, k, e)) (λ e. omega (arith, h, k, e))
    (λ e. omega (arith, h, k, e)))
  where
    at : (q : ℕ) → (q ≡ j → ⊥) → (q ≡ n + j → ⊥) → (q ≡ n + n + j → ⊥) → (q ≡ n + n + n + j → ⊥)
        → get_or (put_side l n j s) q nan ≡ get_or l q nan
    at q = other l j (n + j) (n + n + j) (n + n + n + j) q s.x s.y s.dx s.dy

put_same : (l : List Float) (n j : ℕ) (s : Side) → j < n → n * numbers_of_side ≤ length l → side_at (put_side l n j s) n j ≡ s
unfolding side_at
put_same l n j s below room =
    same-side _ _
    (get_or-set_other c (n + n + n + j) j s.dy nan (λ e. omega (arith, below, e))
    ∙ get_or-set_other b (n + n + j) j s.dx nan (λ e. omega (arith, below, e))
    ∙ get_or-set_other a (n + j) j s.y nan (λ e. omega (arith, below, e))
    ∙ get_or-set_same l j s.x nan (omega (arith, below, room)))
    (get_or-set_other c (n + n + n + j) (n + j) s.dy nan (λ e. omega (arith, below, e))
    ∙ get_or-set_other b (n + n + j) (n + j) s.dx nan (λ e. omega (arith, below, e))
    ∙ get_or-set_same a (n + j) s.y nan (omega (arith, below, room, long-a)))
    (get_or-set_other c (n + n + n + j) (n + n + j) s.dy nan (λ e. omega (arith, below, e))
    ∙ get_or-set_same b (n + n + j) s.dx nan (omega (arith, below, room, long-b)))
    (get_or-set_same c (n + n + n + j) s.dy nan (omega (arith, below, room, long-c)))
  where
    a : List Float
    a = set l j s.x

    b : List Float
    b = set a (n + j) s.y

    c : List Float
    c = set b (n + n + j) s.dx

    long-a : length a ≡ length l
    long-a = length-set l j s.x

    long-b : length b ≡ length l
    long-b = length-set a (n + j) s.y ∙ long-a

    long-c : length c ≡ length l
    long-c = length-set b (n + n + j) s.dx ∙ long-b

-- what is kept of each stands in its place
kept : (path : List Float) (n : ℕ) (eps : Float) (count : ℕ) (l : List Float) → count ≤ n → n * numbers_of_side ≤ length l
    → (j : ℕ) → j < count → side_at (keep_sides path n eps count l) n j ≡ side_of_segment (segment_from path j) eps
unfolding keep_sides
kept path n eps zero l few room j below = absurd (omega (arith, below))
kept path n eps (suc count) l few room j below =
    let up_to : j ≤ count = omega (arith, below) in
    go (eq-or-lt_of_le up_to) (λ (h : j < count). kept path n eps count l (omega (arith, few)) room j h)
  where
    now : List Float
    now = keep_sides path n eps count l

    s : Side
    s = side_of_segment (segment_from path count) eps

    go : (j ≡ count) ⊎ (j < count) → (j < count → side_at now n j ≡ side_of_segment (segment_from path j) eps)
        → side_at (put_side now n count s) n j ≡ side_of_segment (segment_from path j) eps
    go (inl e) rest =
        ap (side_at (put_side now n count s) n) e
        ∙ put_same now n count s (omega (arith, few)) (omega (arith, room, keep-length path n eps count l))
        ∙ ap (λ (k : ℕ). side_of_segment (segment_from path k) eps) (sym e)
    go (inr h) rest = put_other now n j count s h (omega (arith, few)) ∙ rest h

-- what a listing's loop needs of the sieve of lines
pub record SidesKept (second sides : List Float) (eps : Float) (n : ℕ) : Type 0 where
  pub room : n * numbers_of_side ≤ length sides
  pub is : (j : ℕ) → j < n → side_at sides n j ≡ side_of_segment (segment_from second j) eps

pub sides-kept : (path : List Float) (n : ℕ) (eps : Float) (l now : List Float) → n * numbers_of_side ≤ length l
    → now ≡ keep_sides path n eps n l → SidesKept path now eps n
sides-kept path n eps l now room e =
    rw e (record {
      room = omega (arith, room, keep-length path n eps n l);
      is = kept path n eps n l (omega arith) room;
    })

-- ---- the loop that stores them: those before j are stored
pub record Storing (path : List Float) (n : ℕ) (eps : Float) (old now : List Float) (j : ℕ) : Type 0 where
  pub is : now ≡ keep_sides path n eps j old
  pub within : j ≤ n
  pub long : length now ≡ length old

pub storing-starts : (path : List Float) (n : ℕ) (eps : Float) (old : List Float) → Storing path n eps old old 0
unfolding keep_sides
storing-starts path n eps old = record { is = refl; within = omega arith; long = refl }

pub storing-turn : {path old now : List Float} {n j : ℕ} {eps : Float} (s : Segment) (k : Side)
    → Storing path n eps old now j → j < n → s ≡ segment_from path j → k ≡ side_of_segment s eps
    → Storing path n eps old (put_side now n j k) (j + 1)
unfolding keep_sides
storing-turn {path} {old} {now} {n} {j} {eps} s k so_far below f g =
    let next : suc j ≡ j + 1 = omega arith in
    record {
      is =
          ap (λ (a : List Float). put_side a n j k) so_far.is
          ∙ ap (put_side (keep_sides path n eps j old) n j) (g ∙ ap (λ (t : Segment). side_of_segment t eps) f)
          ∙ ap (λ (c : ℕ). keep_sides path n eps c old) next;
      within = omega (arith, below);
      long = put-length now n j k ∙ so_far.long;
    }

pub storing-ends : {path old now : List Float} {n j : ℕ} {eps : Float} → Storing path n eps old now j → n ≤ j
    → now ≡ keep_sides path n eps n old
storing-ends {path} {old} {now} {n} {j} {eps} so_far beyond =
    let all : j ≡ n = omega (arith, so_far.within, beyond) in
    so_far.is ∙ ap (λ (c : ℕ). keep_sides path n eps c old) all
