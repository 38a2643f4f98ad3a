-- The outcome of a boxed listing of checked paths, from what its parts leave: the index of a job, and the two refusals.
use Rattle.checks.specs.Checked.{Checked}
use Rattle.std.specs.Prelude.{◌≡◌, Bool, true, false, cond, List, [], ◌∷◌, ◌++◌, ℕ, ◌+◌, ◌*◌, ◌≤◌, ◌<◌, Float, length, Err, Ok}
use Rattle.std.proofs.Math.Path.{refl, ap}
use Rattle.std.proofs.Common.{sym, ◌∙◌, append-nil, arith, le-ltb, lt-ltb, length-append}
use Rattle.std.proofs.lemmas.List.Edits.{sets}
use Rattle.std.proofs.Math.Seq.{length-sets}
use Rattle.float_laws.specs.Stores.{sets-append}
use Rattle.checks.specs.declared.fault.Item.TheVariants.{Boxes}
use Rattle.checks.specs.declared.fault.Fault.{Fault}
use Rattle.checks.specs.Fault.{whole, refuse, later}
use Rattle.checks.specs.Refusal
use Rattle.checks.specs.First.{first as first_fault}
use Rattle.boxes.specs.Groups.{segment_box, group_count}
use Rattle.boxes.specs.Index.{floats_a_box, floats_of_boxes, boxes_from, index, floats_needed}
use Rattle.boxes.specs.Workings.Stored.{boxes_on, index-length, index-copied}
use Rattle.listing_pairs.specs.declared.row.Row.{Row}
use Rattle.listing_pairs.specs.declared.row.Look.{Look}
use Rattle.listing_pairs.specs.declared.order.Job.{Job}
use Rattle.listing_pairs.specs.Order.{Pair}
use Rattle.listing_pairs.specs.Rows.{rows_of, looked_at}
use Rattle.listing_pairs.specs.Workings.Keeping.{boxes_kept, BoxesKept}
use Rattle.listing_outcomes.specs.declared.answer.Counts.{Counts}
use Rattle.listing_outcomes.specs.Outcome.{Outcome, Leaves, overwrite, room_check, listed_of}
use Rattle.listing_outcomes.specs.BoxedOutcome.{BoxedOutcome, LeavesBoxed, index_check, boxes_after, boxed_of}
use Rattle.listing_outcomes.specs.Laws.Overwrite.{sets_over}
use Rattle.listing_outcomes.specs.Workings.Outcome.{listed}

-- the index of a job: that of the first path and, if there is a second path, that one's behind it
abbrev pub index_for : List Float → List Float → Job → List Float
index_for first second job =
    index first job.epsilon job.n ++ cond job.own [] (index second job.epsilon job.m)

-- in a listing of one path both are the same
abbrev pub OwnPath : List Float → List Float → Job → Type 0
OwnPath first second job = job.own ≡ true → (first ≡ second) × (job.n ≡ job.m)

abbrev pub floats_for : Job → ℕ
floats_for job = cond job.own (floats_needed job.n) (floats_needed job.n + floats_needed job.m)

-- if they fit, so do those of one path
pub first_fits : (job : Job) (room : ℕ) → floats_for job ≤ room → floats_needed job.n ≤ room
first_fits job room = go job.own
  where
    go : (own : Bool) → cond own (floats_needed job.n) (floats_needed job.n + floats_needed job.m) ≤ room
        → floats_needed job.n ≤ room
    go true h = h
    go false h = omega (arith, h)

pub both-fit : (job : Job) (room : ℕ) → job.own ≡ false → floats_for job ≤ room
    → floats_needed job.n + floats_needed job.m ≤ room
both-fit job room own h = rw own at h

long : (path : List Float) (epsilon : Float) (n : ℕ) → length (index path epsilon n) ≡ floats_needed n
unfolding index
long path epsilon n = index-length (segment_box path epsilon) n

pub index-for-length : (first second : List Float) (job : Job) → length (index_for first second job) ≡ floats_for job
index-for-length first second job = go job.own
  where
    go : (own : Bool)
        → length (index first job.epsilon job.n ++ cond own [] (index second job.epsilon job.m))
        ≡ cond own (floats_needed job.n) (floats_needed job.n + floats_needed job.m)
    go true =
        ap length (append-nil (index first job.epsilon job.n)) ∙ long first job.epsilon job.n
    go false =
        omega (
          arith,
          length-append (index first job.epsilon job.n) (index second job.epsilon job.m),
          long first job.epsilon job.n,
          long second job.epsilon job.m,
        )

-- whether it fits, by a count of its floats
pub fits-index : (first second : List Float) (job : Job) (room needed : ℕ) → needed ≡ floats_for job → needed ≤ room
    → length (index_for first second job) ≤ room
fits-index first second job room needed is h = omega (arith, index-for-length first second job, is, h)

pub short-index : (first second : List Float) (job : Job) (room needed : ℕ) → needed ≡ floats_for job → room < needed
    → room < length (index_for first second job)
short-index first second job room needed is h = omega (arith, index-for-length first second job, is, h)

-- ---- the index, stored from the front, by what is kept of the second path
module _ (first second kept : List Float) (job : Job) (old : List Float) (same : OwnPath first second job)
    (boxes : BoxesKept second kept job) where
  abbrev one : List Float
  one = index first job.epsilon job.n

  abbrev two : List Float
  two = index second job.epsilon job.m

  -- what is copied
  abbrev copied : ℕ → List Float
  copied count = floats_of_boxes (boxes_from (boxes_on kept (boxes_kept job.m)) 0 count)

  copied_is : (count : ℕ) → count ≡ job.m + group_count job.m → copied count ≡ two
  copied_is count is =
      ap copied is
      ∙ index-copied kept second job.epsilon (boxes_kept job.m) job.m boxes.is boxes.grouped.once.groups

  pub stored-own : (now : List Float) (count : ℕ) → job.own ≡ true → floats_for job ≤ length old
      → count ≡ job.m + group_count job.m → now ≡ sets old (0 * floats_a_box) (copied count)
      → now ≡ overwrite old (index_for first second job)
  stored-own now count own fits is e =
      let few : floats_needed job.n ≤ length old = rw own at fits in
      let both = same own in
      let whole : copied count ≡ one =
      copied_is count is
      ∙ ap (λ (n : ℕ). index second job.epsilon n) (sym both.1)
      ∙ ap (λ (p : List Float). index p job.epsilon job.n) (sym both.0) in
      e ∙ ap (sets old (0 * floats_a_box)) whole
      ∙ sets_over old one (omega (arith, long first job.epsilon job.n, few))
      ∙ ap (overwrite old) (sym (append-nil one) ∙ ap (λ (b : Bool). one ++ cond b [] two) (sym own))

  pub stored-both : (middle now : List Float) (behind count : ℕ) → job.own ≡ false → floats_for job ≤ length old
      → behind ≡ job.n + group_count job.n → count ≡ job.m + group_count job.m
      → middle ≡ sets old (0 * floats_a_box) one → now ≡ sets middle (behind * floats_a_box) (copied count)
      → now ≡ overwrite old (index_for first second job)
  stored-both middle now behind count own fits is count-is e f =
      let few : floats_needed job.n + floats_needed job.m ≤ length old = rw own at fits in
      let n = long first job.epsilon job.n in
      let m = long second job.epsilon job.m in
      let at : behind * floats_a_box ≡ 0 + length one = omega (arith, is, n) in
      f
      ∙ ap (sets middle (behind * floats_a_box)) (copied_is count count-is)
      ∙ ap (λ (k : ℕ). sets middle k two) at
      ∙ ap (λ (l : List Float). sets l (0 + length one) two) e
      ∙ sets-append old 0 one two
      ∙ sets_over old (one ++ two) (omega (arith, length-append one two, n, m, few))
      ∙ ap (λ (b : Bool). overwrite old (one ++ cond b [] two)) (sym own)

-- ---- a boxed listing of checked paths
abbrev pub boxed : (ℕ → ℕ → Look) → List Pair → List Float → List Float → List ℕ → List Float → BoxedOutcome
boxed look ps index boxes indices points =
    let rows = rows_of look ps in
    boxed_of (first_fault (index_check index boxes ∷ room_check rows indices points ∷ []))
    rows (looked_at look ps) index boxes indices points

module _ (look : ℕ → ℕ → Look) (ps : List Pair) (index boxes : List Float) (i₀ : List ℕ) (p₀ : List Float) where
  abbrev rows : List Row
  rows = rows_of look ps

  -- 17
  pub no_index : length boxes < length index → (f : Fault) → f ≡ whole Refusal.boxes Boxes
      → LeavesBoxed (boxed look ps index boxes i₀ p₀) (Err f) boxes i₀ p₀
  unfolding index_check refuse later
  no_index h f e =
      rw (lt-ltb _ _ h)
      (record { listing = record { answer = ap Err e; indices = refl; points = refl }; boxes = refl })

  module _ (fits : length index ≤ length boxes) where
    -- only 8 is left
    left : (c : Checked) → first_fault (index_check index boxes ∷ c ∷ []) ≡ c
    unfolding index_check refuse later
    left c = rw (le-ltb _ _ fits) (go c)
      where
        go : (c : Checked) → later (Ok tt) (later c (Ok tt)) ≡ c
        go (Ok _) = refl
        go (Err f) = refl

    pub index-fits : boxed look ps index boxes i₀ p₀
        ≡ boxed_of (room_check rows i₀ p₀) rows (looked_at look ps) index boxes i₀ p₀
    index-fits =
        ap (λ (c : Checked). boxed_of c rows (looked_at look ps) index boxes i₀ p₀) (left (room_check rows i₀ p₀))

    pub boxed-refused : (f : Fault) (i : List ℕ) (p : List Float) → Leaves (listed look ps i₀ p₀) (Err f) i p
        → LeavesBoxed (boxed look ps index boxes i₀ p₀) (Err f) boxes i p
    boxed-refused f i p h = rw index-fits (go (room_check rows i₀ p₀) h)
      where
        go : (c : Checked) → Leaves (listed_of c rows (looked_at look ps) i₀ p₀) (Err f) i p
            → LeavesBoxed (boxed_of c rows (looked_at look ps) index boxes i₀ p₀) (Err f) boxes i p
        go (Err g) l = record { listing = l; boxes = refl }
        go (Ok _) l = cc l.answer

    pub boxed-listed : (counts : Counts) (b : List Float) (i : List ℕ) (p : List Float)
        → Leaves (listed look ps i₀ p₀) (Ok counts) i p → b ≡ overwrite boxes index
        → LeavesBoxed (boxed look ps index boxes i₀ p₀) (Ok counts) b i p
    boxed-listed counts b i p h e = rw index-fits (go (room_check rows i₀ p₀) h)
      where
        go : (c : Checked) → Leaves (listed_of c rows (looked_at look ps) i₀ p₀) (Ok counts) i p
            → LeavesBoxed (boxed_of c rows (looked_at look ps) index boxes i₀ p₀) (Ok counts) b i p
        go (Err g) l = cc l.answer
        go (Ok _) l = record { listing = l; boxes = e }
