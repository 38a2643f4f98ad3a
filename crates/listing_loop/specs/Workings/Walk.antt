-- The walk of a run, as `src/walk.rt` goes: what it needs, what is so at each index, and what it answers.
use Rattle.std.specs.Prelude.{◌≡◌, refl, Bool, true, false, List, [], ◌∷◌, ◌⊎◌, ℕ, suc, ◌+◌, ◌-◌, ◌*◌, ◌≤◌, ◌<◌, T, Float, length}
use Rattle.std.proofs.Common.{sym, ap, ◌∙◌, true≢false, inl, inr, arith}
use Rattle.std.specs.Float.{binary64}
use Rattle.std.specs.Float.Ieee.{fits}
use Rattle.std.proofs.Math.Seq.{length-sets}
use Rattle.fast_pair.specs.declared.kept.Kept.{Kept}
use Rattle.paths.specs.declared.path.Segment.{Segment}
use Rattle.paths.specs.Path.{most_segments}
use Rattle.paths.specs.Segments.{segment_from}
use Rattle.boxes.specs.Workings.Next.{first, First, first-is}
use Rattle.listing_pairs.specs.declared.row.Row.{Row}
use Rattle.listing_pairs.specs.declared.row.Look.{Look}
use Rattle.listing_pairs.specs.declared.row.Look.TheVariants.{Skipped, Nothing, Made}
use Rattle.listing_pairs.specs.declared.order.Job.{Job}
use Rattle.listing_pairs.specs.Row.{indices_a_row, points_a_row, indices_of, points_of, numbers_of_rows}
use Rattle.listing_pairs.specs.Workings.Job as JobDefs
use Rattle.listing_pairs.specs.Workings.Keeping.{KeptOf, of_segment}
use Rattle.listing_pairs.specs.Workings.Ready.{look_on, look_by, SegmentReady}
use Rattle.listing_pairs.specs.Workings.Stored.{written, put_indices, put_points}
use Rattle.sieves.specs.declared.marks.Grain.{Grain}
use Rattle.sieves.specs.declared.lines.Side.{Side}
use Rattle.sieves.specs.Workings.Flags.{block, flags, is_up, is-up-lem}
use Rattle.sieves.specs.Workings.Lines.{side_of}
use Rattle.sieves.specs.Workings.Marks.{marked, mark_of, More, set-itself}
use Rattle.listing_loop.specs.declared.fill.How.{How}
use Rattle.listing_loop.specs.declared.fill.Part.{Part}
use Rattle.listing_loop.specs.declared.walk.Walk.{Walk}
use Rattle.listing_loop.specs.Laws.Loop.{most_pairs, State, skips, looks, makes, looks-over}
use Rattle.listing_loop.specs.Workings.Sift.{Sieves, left, note, note-more, note-length, sifted}

-- what a walk needs
pub record Ready (v : Segment) (v-kept : Kept) (lines : Bool) (second kept sides : List Float) (job : Job) (grain : Grain)
    (how : How) (part : Part) (i from to rows looked : ℕ) (marks indices : List ℕ) (points : List Float) : Type 0 where
  pub segment : SegmentReady v second job
  pub own : v-kept ≡ of_segment v job.epsilon
  pub others : (k : ℕ) → from ≤ k → k < to → KeptOf second kept job.epsilon k
  pub sieves : Sieves v second sides job grain lines how.recalling marks i from to
  pub ordered : from ≤ to
  pub within : to ≤ job.m
  pub few : job.m ≤ most_segments
  pub few-first : i ≤ most_segments
  pub fits : rows ≤ part.room
  pub room : part.room * indices_a_row ≤ length indices
  pub points-room : part.room * points_a_row ≤ length points
  pub few-looked : looked ≤ most_pairs

-- at index j: l, p and w are the slices and the marks now, and l₀, p₀, w₀ what they were when the walk began
pub record Walking (v : Segment) (second kept : List Float) (job : Job) (grain : Grain) (how : How) (part : Part) (i from rows₀ looked₀ : ℕ)
    (l₀ : List ℕ) (p₀ : List Float) (w₀ : List ℕ) (j rows looked : ℕ) (l : List ℕ) (p : List Float) (w : List ℕ) : Type 0 where
  pub low : from ≤ j
  pub few : looked ≤ looked₀ + (j - from)
  pub fits : rows ≤ part.room
  pub indices : length l ≡ length l₀
  pub points : length p ≡ length p₀
  pub grows : More w₀ w
  pub marks : length w ≡ length w₀
  pub state : (first : List Float) (x : List ℕ) (y : List Float) (budget : ℕ) → v ≡ segment_from first i → i < job.n
      → j ≤ JobDefs.to job i → j - from ≤ budget
      → ((k : ℕ) → from ≤ k → k < j → look_by first second job i k ≡ look_on v second job i k)
      → State first second kept job grain how part x y i from rows₀ budget looked₀ l₀ p₀ w₀
      → State first second kept job grain how part x y i j rows (budget - (j - from)) looked l p w

-- before the next index of a block that is left, the pairs make no row
pub passed_over : (v : Segment) (second sides : List Float) (job : Job) (grain : Grain) (lines recalling : Bool)
    (old marks : List ℕ) (i from to : ℕ) → Sieves v second sides job grain lines recalling old i from to → More old marks
    → T (fits binary64 job.epsilon) → to ≤ job.m
    → (side : Side) (start end j next : ℕ) (before now : List ℕ) → side ≡ side_of v.v1 v.v2 job.epsilon
    → now ≡ flags (left side lines recalling sides marks grain i job.m job.epsilon) start end before
    → end - start ≤ length before → next ≡ first (is_up now start) j end → start ≤ j → j ≤ end → from ≤ start → end ≤ to
    → (h : ℕ) → j ≤ h → h < next → look_on v second job i h ≡ Nothing
passed_over v second sides job grain lines recalling old marks i from to sieves more eps-fits within
    side start end j next before now side-is flags-are room next-is starts inside low high h above below =
    let f = first-is (is_up now start) j end next inside next-is in
    let test = left side lines recalling sides marks grain i job.m job.epsilon in
    let down : is_up (flags test start end before) start h ≡ false =
    ap (λ (l : List ℕ). is_up l start h) (sym flags-are) ∙ f.before h above below in
    let is = is-up-lem test start end before room h (omega (arith, starts, above)) (omega (arith, below, f.high)) in
    sifted v second sides job grain lines recalling old marks i from to sieves more eps-fits within h
    (omega (arith, low, starts, above)) (omega (arith, below, f.high, high))
    (ap (λ (u : Side). left u lines recalling sides marks grain i job.m job.epsilon h) (sym side-is) ∙ sym is ∙ down)

-- a pair that is noted has its mark
noted-own : (noting : Bool) (w : List ℕ) (q : ℕ) (grain : Grain) (i j : ℕ) → q ≡ mark_of grain i j → noting ≡ true
    → marked (note noting w q) grain i j ≡ true
unfolding note
noted-own true w q grain i j c h = rw (sym c) (set-itself w q)
noted-own false w q grain i j c h = absurd (true≢false (sym h))

-- the answer
pub record Walked (v : Segment) (second kept : List Float) (job : Job) (grain : Grain) (how : How) (part : Part)
    (i from to rows₀ looked₀ : ℕ) (l₀ : List ℕ) (p₀ : List Float) (w₀ : List ℕ) (r : Walk) (l : List ℕ) (p : List Float)
    (w : List ℕ) : Type 0 where
  pub walking : Walking v second kept job grain how part i from rows₀ looked₀ l₀ p₀ w₀ r.j r.rows r.looked l p w
  pub high : r.j ≤ to
  pub done : r.full ≡ false → r.j ≡ to
  pub stops : r.full ≡ true → (r.j < to) × (part.room ≤ r.rows) × ((row : Row) × (look_on v second job i r.j ≡ Made row))

module _ (v : Segment) (second kept : List Float) (job : Job) (grain : Grain) (how : How) (part : Part) (i from rows₀ looked₀ : ℕ)
    (l₀ : List ℕ) (p₀ : List Float) (w₀ : List ℕ) where
  abbrev At : ℕ → ℕ → ℕ → List ℕ → List Float → List ℕ → Type 0
  At j rows looked l p w = Walking v second kept job grain how part i from rows₀ looked₀ l₀ p₀ w₀ j rows looked l p w

  pub walking-starts : rows₀ ≤ part.room → At from rows₀ looked₀ l₀ p₀ w₀
  walking-starts h =
      let none : from - from ≡ 0 = omega arith in
      record {
        low = omega arith;
        few = omega arith;
        fits = h;
        indices = refl;
        points = refl;
        grows = λ q t. t;
        marks = refl;
        state = λ first x y budget is inside high allowed same s.
            (let all : budget - (from - from) ≡ budget = omega arith in rw all s);
      }

module _ {v : Segment} {second kept : List Float} {job : Job} {grain : Grain} {how : How} {part : Part} {i from rows₀ looked₀ : ℕ}
    {l₀ : List ℕ} {p₀ : List Float} {w₀ : List ℕ} {j rows looked : ℕ} {l : List ℕ} {p : List Float} {w : List ℕ}
    (s : Walking v second kept job grain how part i from rows₀ looked₀ l₀ p₀ w₀ j rows looked l p w) where
  -- over pairs that make no row
  pub walking-over : (k : ℕ) → j ≤ k → ((h : ℕ) → j ≤ h → h < k → look_on v second job i h ≡ Nothing)
      → Walking v second kept job grain how part i from rows₀ looked₀ l₀ p₀ w₀ k rows (looked + (k - j)) l p w
  walking-over k on none =
      record {
        low = omega (arith, s.low, on);
        few = omega (arith, s.low, on, s.few);
        fits = s.fits;
        indices = s.indices;
        points = s.points;
        grows = s.grows;
        marks = s.marks;
        state = λ first x y budget is inside high allowed same before.
            (let here = s.state first x y budget is inside (omega (arith, high, on)) (omega (arith, allowed, on, s.low))
            (λ h a b. same h a (omega (arith, b, on))) before in
            let spent : budget - (j - from) - (k - j) ≡ budget - (k - from) = omega (arith, s.low, on) in
            rw spent at
            (looks-over inside j k (budget - (j - from)) here on high (omega (arith, allowed, s.low, on))
            (λ h a b. same h (omega (arith, a, s.low)) b ∙ none h a b)));
      }

  -- one pair
  module _ {rows' looked' : ℕ} {l' : List ℕ} {p' : List Float} {w' : List ℕ} where
    one : looked' ≤ looked + 1 → rows' ≤ part.room → length l' ≡ length l → length p' ≡ length p → More w w'
        → length w' ≡ length w
        → ((first : List Float) (x : List ℕ) (y : List Float) (budget less : ℕ) → i < job.n → j < JobDefs.to job i
        → budget ≡ suc less → look_by first second job i j ≡ look_on v second job i j
        → State first second kept job grain how part x y i j rows budget looked l p w
        → State first second kept job grain how part x y i (j + 1) rows' less looked' l' p' w')
        → Walking v second kept job grain how part i from rows₀ looked₀ l₀ p₀ w₀ (j + 1) rows' looked' l' p' w'
    one few fits a b more long step =
        record {
          low = omega (arith, s.low);
          few = omega (arith, s.low, s.few, few);
          fits = fits;
          indices = a ∙ s.indices;
          points = b ∙ s.points;
          grows = λ q t. more q (s.grows q t);
          marks = long ∙ s.marks;
          state = λ first x y budget is inside high allowed same before.
              (let here = s.state first x y budget is inside (omega (arith, high)) (omega (arith, allowed, s.low))
              (λ h c d. same h c (omega (arith, d))) before in
              let left : budget - (j - from) ≡ suc (budget - (j + 1 - from)) = omega (arith, allowed, s.low) in
              step first x y (budget - (j - from)) (budget - (j + 1 - from)) inside (omega (arith, high)) left
              (same j s.low (omega arith)) here);
        }

  pub walking-skipped : look_on v second job i j ≡ Skipped
      → Walking v second kept job grain how part i from rows₀ looked₀ l₀ p₀ w₀ (j + 1) rows looked l p w
  walking-skipped e =
      one (omega arith) s.fits refl refl (λ q t. t) refl
      (λ first x y budget less inside below allowed same t. skips t inside below less allowed (same ∙ e))

  pub walking-nothing : look_on v second job i j ≡ Nothing
      → Walking v second kept job grain how part i from rows₀ looked₀ l₀ p₀ w₀ (j + 1) rows (looked + 1) l p w
  walking-nothing e =
      one (omega arith) s.fits refl refl (λ q t. t) refl
      (λ first x y budget less inside below allowed same t. looks t inside below less allowed (same ∙ e))

  -- a pair that makes a row: it is put and, if so asked, noted
  pub walking-made : (r : Row) → look_on v second job i j ≡ Made r → rows < part.room
      → (i' : List ℕ) (p' : List Float) (w' : List ℕ) (q : ℕ)
      → i' ≡ put_indices part.write l rows r → p' ≡ put_points part.write p rows r → q ≡ mark_of grain i j
      → w' ≡ note how.noting w q
      → Walking v second kept job grain how part i from rows₀ looked₀ l₀ p₀ w₀ (j + 1) (rows + 1) (looked + 1) i' p' w'
  walking-made r e room i' p' w' q a b c d =
      rw (a, b, d)
      (one (omega arith) (omega (arith, room))
      (length-sets l (rows * indices_a_row) (numbers_of_rows indices_of (written part.write (r ∷ []))))
      (length-sets p (rows * points_a_row) (numbers_of_rows points_of (written part.write (r ∷ []))))
      (note-more how.noting w q) (note-length how.noting w q)
      (λ first x y budget less inside below allowed same t.
      makes t inside below less allowed r (same ∙ e) room (note how.noting w q) (note-more how.noting w q)
      (noted-own how.noting w q grain i j c)))
