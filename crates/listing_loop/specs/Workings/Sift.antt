-- Which pairs of a block the loop looks at, as `src/sift.rt` finds them; and that the others make no row.
use Rattle.std.specs.Prelude.{◌≡◌, Bool, cond, ◌&&◌, List, ℕ, zero, suc, ◌≤◌, ◌<◌, T, Float, length}
use Rattle.std.proofs.Math.Path.{refl}
use Rattle.std.proofs.Common.{sym, ap, ◌∙◌, true≢false, arith}
use Rattle.std.proofs.Math.Bool.{true, false, not}
use Rattle.std.proofs.Math.Dec.{ltb}
use Rattle.std.specs.Float.{binary64}
use Rattle.std.specs.Float.Ieee.{fits}
use Rattle.arcs.specs.declared.pline_seg_intr.PlineSegIntr.{PlineSegIntr}
use Rattle.crossing.specs.PlineSeg.{pline_seg}
use Rattle.paths.specs.declared.path.Segment.{Segment}
use Rattle.paths.specs.Segments.{segment_from}
use Rattle.crossing.specs.PlineSegIntr.{class_of}
use Rattle.listing_pairs.specs.declared.row.Row.{Row}
use Rattle.listing_pairs.specs.declared.row.Look.{Look}
use Rattle.listing_pairs.specs.declared.row.Look.TheVariants.{Nothing, Made}
use Rattle.listing_pairs.specs.declared.order.Job.{Job}
use Rattle.listing_pairs.specs.Neighbours.{at_joint}
use Rattle.listing_pairs.specs.Row.{row, unless_apart, look_of}
use Rattle.listing_pairs.specs.Workings.Ready.{look_on, apart}
use Rattle.sieves.specs.declared.lines.Side.{Side}
use Rattle.sieves.specs.declared.marks.Grain.{Grain}
use Rattle.sieves.specs.Workings.Flags.{every}
use Rattle.sieves.specs.Workings.Lines.{usual_line, side_of, side_at, sides_apart, lines_left, SidesKept}
use Rattle.sieves.specs.Workings.Marks.{Fair, marked, set_mark, More, set-still, set-length}
use Rattle.sieves.specs.Laws.Lines.{sides-apart-lem}

unfoldable pub by_lines : Bool → Segment → Float → Bool
by_lines sieved v epsilon = cond sieved (usual_line v.v1 v.v2 epsilon) false

unfoldable pub by_marks : Bool → Bool → Grain → Bool
by_marks lines recalling grain = recalling && not (lines && ltb 0 grain.shift)

unfoldable pub left : Side → Bool → Bool → List Float → List ℕ → Grain → ℕ → ℕ → Float → ℕ → Bool
left side lines recalling sides marks grain i m epsilon =
    cond (by_marks lines recalling grain)
    (marked marks grain i)
    (cond lines (lines_left side sides m epsilon) every)

unfoldable pub note : Bool → List ℕ → ℕ → List ℕ
note noting marks p = cond noting (set_mark marks p) marks

-- the sieve of lines is asked for, and can judge v
pub asked : (sieved : Bool) (v : Segment) (epsilon : Float) (lines : Bool) → lines ≡ by_lines sieved v epsilon → lines ≡ true
    → (sieved ≡ true) × (usual_line v.v1 v.v2 epsilon ≡ true)
unfolding by_lines
asked true v epsilon lines e h = (refl, sym e ∙ h)
asked false v epsilon lines e h = absurd (true≢false (sym h ∙ e))

-- ---- noting adds a mark, and takes none away
pub note-more : (noting : Bool) (marks : List ℕ) (p : ℕ) → More marks (note noting marks p)
unfolding note
note-more true marks p = set-still marks p
note-more false marks p = λ q h. h

pub note-length : (noting : Bool) (marks : List ℕ) (p : ℕ) → length (note noting marks p) ≡ length marks
unfolding note
note-length true marks p = set-length marks p
note-length false marks p = refl

-- ---- what a block's sieve needs: what is kept of lines, and the marks of the run's pairs
pub record Sieves (v : Segment) (second sides : List Float) (job : Job) (grain : Grain) (lines recalling : Bool) (marks : List ℕ)
    (i from to : ℕ) : Type 0 where
  pub fair : Fair grain
  pub usual : lines ≡ true → usual_line v.v1 v.v2 job.epsilon ≡ true
  pub kept : lines ≡ true → SidesKept second sides job.epsilon job.m
  pub noted : recalling ≡ true
      → (k : ℕ) → from ≤ k → k < to → (r : Row) → look_on v second job i k ≡ Made r → marked marks grain i k ≡ true

-- ---- what is not left makes no row
-- a pair gives a row or none
either : (v : Segment) (second : List Float) (job : Job) (i j : ℕ) → ((r : Row) → look_on v second job i j ≡ Made r → ⊥)
    → look_on v second job i j ≡ Nothing
unfolding look_on look_of
either v second job i j none =
    go
    (job.own
    && at_joint second job.closed job.m job.epsilon i j
    (pline_seg v.v1 v.v2 (segment_from second j).v1 (segment_from second j).v2 job.epsilon))
    (class_of (pline_seg v.v1 v.v2 (segment_from second j).v1 (segment_from second j).v2 job.epsilon))
    (row i j (pline_seg v.v1 v.v2 (segment_from second j).v1 (segment_from second j).v2 job.epsilon)) none
  where
    go : (joint : Bool) (class : ℕ) (s : Row) → ((r : Row) → cond joint Nothing (unless_apart class s) ≡ Made r → ⊥)
        → cond joint Nothing (unless_apart class s) ≡ Nothing
    go true class s h = refl
    go false zero s h = refl
    go false (suc class) s h = absurd (h s refl)

module _ (v : Segment) (second sides : List Float) (job : Job) (grain : Grain) (lines recalling : Bool) (old marks : List ℕ)
    (i from to : ℕ) (h : Sieves v second sides job grain lines recalling old i from to) (more : More old marks)
    (eps-fits : T (fits binary64 job.epsilon)) (within : to ≤ job.m) where
  by-marks : recalling ≡ true → (k : ℕ) → from ≤ k → k < to → marked marks grain i k ≡ false
      → look_on v second job i k ≡ Nothing
  by-marks r k low high down =
      either v second job i k (λ s e. true≢false (sym (more _ (h.noted r k low high s e)) ∙ down))

  by-sides : lines ≡ true → (k : ℕ) → k < job.m
      → lines_left (side_of v.v1 v.v2 job.epsilon) sides job.m job.epsilon k ≡ false
      → look_on v second job i k ≡ Nothing
  by-sides l k inside down =
      let u = segment_from second k in
      let side = side_of v.v1 v.v2 job.epsilon in
      let says : sides_apart side (side_of u.v1 u.v2 job.epsilon) job.epsilon ≡ true =
      ap (λ (s : Side). sides_apart side s job.epsilon) (sym ((h.kept l).is k inside)) ∙ yes_of _ down in
      sym (apart v second job i k (pline_seg v.v1 v.v2 u.v1 u.v2 job.epsilon) refl
      (sides-apart-lem v.v1 v.v2 u.v1 u.v2 job.epsilon eps-fits (h.usual l) says))
    where
      yes_of : (b : Bool) → not b ≡ false → b ≡ true
      yes_of true e = refl
      yes_of false e = absurd (true≢false e)

  pub sifted : (k : ℕ) → from ≤ k → k < to
      → left (side_of v.v1 v.v2 job.epsilon) lines recalling sides marks grain i job.m job.epsilon k ≡ false
      → look_on v second job i k ≡ Nothing
  unfolding left by_marks
  sifted k low high down =
      go (recalling && not (lines && ltb 0 grain.shift)) (λ h. recalled recalling _ h) lines refl down
    where
      recalled : (a b : Bool) → (a && b) ≡ true → a ≡ true
      recalled true b e = refl
      recalled false b e = e

      go : (r : Bool) → (r ≡ true → recalling ≡ true) → (l : Bool) → lines ≡ l
          → cond r (marked marks grain i)
          (cond l (lines_left (side_of v.v1 v.v2 job.epsilon) sides job.m job.epsilon) every) k ≡ false
          → look_on v second job i k ≡ Nothing
      go true e l f d = by-marks (e refl) k low high d
      go false e true f d = by-sides f k (omega (arith, high, within)) d
      go false e false f d = absurd (true≢false d)
