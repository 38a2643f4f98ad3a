-- How answering an input ends: no room, the text line of a refusal, the text lines of a listing; and what the reader's answer
-- says of the buffers.
use Rattle.std.specs.Prelude.{◌≡◌, Bool, true, false, List, ℕ, ◌+◌, ◌-◌, ◌*◌, ◌/◌, ◌≤◌, ◌<◌, ltb, Float, length, replicate, take, drop, Result, Ok, Err}
use Rattle.std.proofs.Math.Path.{refl}
use Rattle.std.proofs.Common.{sym, ap, ◌∙◌, arith, lt-ltb, le-ltb, take_at}
use Rattle.std.proofs.lemmas.Bool.{lt-leb}
use Rattle.std.specs.Float.{binary64}
use Rattle.std.specs.Float.Ieee.{of_bits}
use Rattle.std.proofs.lemmas.List.{length-replicate}
use Rattle.std.proofs.lemmas.List.Edits.{sets, sets-eq}
use Rattle.std.proofs.Math.Seq.{length-sets}
use Rattle.layouts.specs.Limits as limit
use Rattle.layouts.specs.Limits.{numbers_a_vertex}
use Rattle.layouts.specs.Layout.{Vertex, Layout}
use Rattle.layouts.specs.Numbers.{path_of}
use Rattle.layout_packed.specs.Workings.Reader.{Unpacked, broken_at, layout, reads_packed}
use Rattle.layout_packed.specs.Exactly.{read-is-packed}
use Rattle.layout_packed.specs.Read as read
use Rattle.layout_packed.specs.declared.Counts.{Counts}
use Rattle.layout_packed.specs.declared.UnpackError.{UnpackError}
use Rattle.layout_packed.specs.declared.UnpackError.TheVariants as UnpackError·
use Rattle.answer_lines.specs.declared.WriteError.{WriteError}
use Rattle.answer_lines.specs.declared.WriteError.TheVariants.{NoRoom}
use Rattle.answer_lines.specs.Lines as LineDefs
use Rattle.answer_lines.specs.Lines.{refused_text, answer_text}
use Rattle.answer_lines.specs.Sizes.{line}
use Rattle.answer_lines.specs.Written.{Lines, RefusalLine, AnswerLines}
use Rattle.listing_pairs.specs.Row.{indices_a_row, points_a_row}
use Rattle.checks.specs.declared.fault.Fault.{Fault}
use Rattle.listing_outcomes.specs.Answer.{Listed, ListingAnswer}
use Rattle.listing_outcomes.specs.Outcome.{Leaves}
use Rattle.listing_calls.specs.Listing.{mutual_listing}
use Rattle.listing_calls.specs.Laws.Counts.{mutual-fits}
use Rattle.layout_listing.specs.Laws.Widths.{path-long}
use Rattle.layout_listing.specs.Laws.Begins.{rest_all}
use Rattle.layout_listing.specs.Answer.{
  epsilon,
  most_rows,
  no_indices,
  no_points,
  listing,
  lines_of,
  lines_for,
  first_line,
  line_missing,
  begins,
  answer_to,
  room,
  LinesFor,
  FileAnswer,
  AnswerTo,
}

-- ---- text lines
module _ (bytes old : List ℕ) where
  pub no_room : length old < room → Lines false (ltb (length old) room) bytes (Err NoRoom) old old
  no_room h = let e = lt-ltb (length old) room h in record { answer-is = rw e refl; holds = rw e refl }

  module _ (h : room ≤ length old) where
    -- if there is more room than needed
    enough : (roomless : Bool) → roomless ≡ false → (r : Result ℕ WriteError) (now : List ℕ) → Lines false roomless bytes r old now
        → Lines false (ltb (length old) room) bytes r old now
    enough roomless e r now l =
        let f = le-ltb (length old) room h in
        let k = rw e at l in
        record { answer-is = rw f k.answer-is; holds = rw f k.holds }

pub refusal-line : (n : ℕ) (old : List ℕ) → room ≤ length old → (r : Result ℕ WriteError) (now : List ℕ) → RefusalLine n r old now
    → Lines false (ltb (length old) room) (refused_text n) r old now
refusal-line n old h r now l =
    enough (refused_text n) old h (ltb (length old) line) (le-ltb (length old) line (omega (arith, h))) r now l

-- ---- the text lines of a listing
module _ (first second : List Float) (old : List ℕ) (h : room ≤ length old) (a : ListingAnswer) (i : List ℕ) (p : List Float)
    (leaves : Leaves (mutual_listing first false second false epsilon no_indices no_points) a i p) (r : Result ℕ WriteError) (now : List ℕ) where
  lines : lines_for first second ≡ lines_of a i p
  unfolding lines_for listing
  lines = rw (leaves.answer, leaves.indices, leaves.points) refl

  pub refused-lines : (f : Fault) → a ≡ Err f → RefusalLine f.number r old now → LinesFor first second r old now
  refused-lines f e l =
      rw (lines ∙ ap (λ (t : ListingAnswer). lines_of t i p) e) (refusal-line f.number old h r now l)

  pub listed-lines : (rows pairs : ℕ) → a ≡ Listed rows pairs → AnswerLines pairs rows i p r old now
      → LinesFor first second r old now
  listed-lines rows pairs e l =
      let o = mutual_listing first false second false epsilon no_indices no_points in
      let fits = mutual-fits first false second false epsilon no_indices no_points in
      let z : ℕ = 0 in
      let y : Float = of_bits binary64 0 in
      let wide : length no_indices ≡ most_rows * indices_a_row = length-replicate (most_rows * indices_a_row) z in
      let long : length no_points ≡ most_rows * points_a_row = length-replicate (most_rows * points_a_row) y in
      let few : rows ≤ most_rows = omega (arith, fits.few rows pairs (sym leaves.answer ∙ e), wide, long) in
      let i-long : length i ≡ most_rows * indices_a_row = ap length leaves.indices ∙ fits.indices ∙ wide in
      let p-long : length p ≡ most_rows * points_a_row = ap length leaves.points ∙ fits.points ∙ long in
      let one = le-ltb (length i / LineDefs.indices_a_row) rows (omega (arith, few, i-long)) in
      let two = le-ltb (length p / LineDefs.points_a_row) rows (omega (arith, few, p-long)) in
      let three = lt-leb (length old / line) rows (omega (arith, few, h)) in
      let k : Lines false false (answer_text pairs rows i p) r old now = rw (one, two, three) at l in
      rw (lines ∙ ap (λ (t : ListingAnswer). lines_of t i p) e) (enough (answer_text pairs rows i p) old h false refl r now k)

-- ---- the buffers after reading
abbrev pub buffer : List Float
buffer = replicate limit.room (of_bits binary64 0)

buffer-long : length buffer ≡ limit.room
buffer-long = let y : Float = of_bits binary64 0 in length-replicate limit.room y

-- a path's numbers are the front of its buffer
front : (vs : List Vertex) (n : ℕ) (held : List Float) → n ≡ length vs → length vs ≤ limit.vertices
    → held ≡ sets buffer 0 (path_of vs) → take (n * numbers_a_vertex) held ≡ path_of vs
front vs n held e few is =
    let long = path-long vs in
    ap (take (n * numbers_a_vertex)) (is ∙ sets-eq (path_of vs) buffer 0 (omega (arith, long, few, buffer-long)))
    ∙ take_at (path_of vs) (drop (0 + length (path_of vs)) buffer) (n * numbers_a_vertex) (omega (arith, long, e))

-- what the counts say
pub record Fronts (file : List ℕ) (n m : ℕ) (first second : List Float) : Type 0 where
  pub layout_is : Layout
  pub reads-it : reads_packed file ≡ layout layout_is
  pub few-first : n ≤ limit.vertices
  pub few-second : m ≤ limit.vertices
  pub first-long : length first ≡ limit.room
  pub second-long : length second ≡ limit.room
  pub first-front : take (n * numbers_a_vertex) first ≡ path_of layout_is.first
  pub second-front : take (m * numbers_a_vertex) second ≡ path_of layout_is.second

-- two answers of the reader are equal
abbrev Alike : Result Counts UnpackError → Result Counts UnpackError → Type 0
Alike r s = r ≡ s

module _ (file : List ℕ) (r : Result Counts UnpackError) (first second : List Float) (l : read.ReadPacked file r buffer first buffer second) where
  answer-is : r ≡ read.answer_of (reads_packed file)
  answer-is = l.answer-is

  pub counted : (counts : Counts) → r ≡ Ok counts → Fronts file counts.first counts.second first second
  counted counts e = go (reads_packed file) refl
    where
      go : (u : Unpacked) → reads_packed file ≡ u → Fronts file counts.first counts.second first second
      go (broken_at k) is =
          let both : Alike (Err (UnpackError·.Refused read.refusal k)) (Ok counts) = sym (answer-is ∙ ap read.answer_of is) ∙ e in
          let z : ◌≡◌ {A = ℕ} 0 1 = cc in
          absurd (omega (arith, z))
      go (layout k) is =
          let both : Alike (Ok (record { first = length k.first; second = length k.second })) (Ok counts) =
          sym (answer-is ∙ ap read.answer_of is) ∙ e in
          let same : record { first = length k.first; second = length k.second } ≡ counts = cc in
          let n-is : counts.first ≡ length k.first = sym (ap (λ (c : Counts). c.first) same) in
          let m-is : counts.second ≡ length k.second = sym (ap (λ (c : Counts). c.second) same) in
          let w = (read-is-packed file k is).1 in
          let on-first : first ≡ sets buffer 0 (path_of k.first) =
          l.first_holds ∙ ap (λ (u : Unpacked). read.first_of u buffer) is in
          let on-second : second ≡ sets buffer 0 (path_of k.second) =
          l.second_holds ∙ ap (λ (u : Unpacked). read.second_of u buffer) is in
          record {
            layout_is = k;
            reads-it = is;
            few-first = omega (arith, n-is, w.first_count);
            few-second = omega (arith, m-is, w.second-count);
            first-long = ap length on-first ∙ length-sets buffer 0 (path_of k.first) ∙ buffer-long;
            second-long = ap length on-second ∙ length-sets buffer 0 (path_of k.second) ∙ buffer-long;
            first-front = front k.first counts.first first n-is w.first_count on-first;
            second-front = front k.second counts.second second m-is w.second-count on-second;
          }

  -- what a refusal says: its number is that of a file that breaks the packed form
  pub refused-is : (n k : ℕ) → r ≡ Err (UnpackError·.Refused n k) → (reads_packed file ≡ broken_at k) × (n ≡ read.refusal)
  refused-is n k e = go (reads_packed file) refl
    where
      go : (u : Unpacked) → reads_packed file ≡ u → (u ≡ broken_at k) × (n ≡ read.refusal)
      go (broken_at j) is =
          let both : Alike (Err (UnpackError·.Refused read.refusal j)) (Err (UnpackError·.Refused n k)) =
          sym (answer-is ∙ ap read.answer_of is) ∙ e in
          let same : j ≡ k = cc in
          (ap broken_at same, cc)
      go (layout j) is =
          let both : Alike (Ok (record { first = length j.first; second = length j.second })) (Err (UnpackError·.Refused n k)) =
          sym (answer-is ∙ ap read.answer_of is) ∙ e in
          let z : ◌≡◌ {A = ℕ} 0 1 = cc in
          absurd (omega (arith, z))

  -- the buffers have room
  pub roomy : r ≡ Err UnpackError·.NoRoom → ⊥
  roomy e = go (reads_packed file) refl
    where
      go : (u : Unpacked) → reads_packed file ≡ u → ⊥
      go (broken_at k) is =
          let both : Alike (Err (UnpackError·.Refused read.refusal k)) (Err UnpackError·.NoRoom) = sym (answer-is ∙ ap read.answer_of is) ∙ e in
          let z : ◌≡◌ {A = ℕ} 0 1 = cc in
          omega (arith, z)
      go (layout k) is =
          let both : Alike (Ok (record { first = length k.first; second = length k.second })) (Err UnpackError·.NoRoom) =
          sym (answer-is ∙ ap read.answer_of is) ∙ e in
          let z : ◌≡◌ {A = ℕ} 0 1 = cc in
          omega (arith, z)

-- ---- the answer to a packed file
module _ (file old : List ℕ) (r : Result ℕ WriteError) (now : List ℕ) where
  pub broken-answer : (n k : ℕ) → room ≤ length old → reads_packed file ≡ broken_at k → n ≡ read.refusal → RefusalLine n r old now
      → FileAnswer file r old now
  broken-answer n k h is e l = rw is (refusal-line read.refusal old h r now (rw e at l))

  pub listed_answer : (n m : ℕ) (first second : List Float) → Fronts file n m first second
      → LinesFor (take (n * numbers_a_vertex) first) (take (m * numbers_a_vertex) second) r old now → FileAnswer file r old now
  listed_answer n m first second f l = rw f.reads-it (rw (f.first-front, f.second-front) at l)

-- ---- the answer to an input
module _ (input old : List ℕ) (r : Result ℕ WriteError) (now : List ℕ) where
  pub begun-answer : begins first_line input ≡ true
      → FileAnswer (take (length input - length first_line) (drop (length first_line) input)) r old now → AnswerTo input r old now
  unfolding answer_to
  begun-answer is l = rw is (rw (rest_all (length first_line) input) at l)

  pub missing-answer : room ≤ length old → begins first_line input ≡ false → RefusalLine line_missing r old now
      → AnswerTo input r old now
  unfolding answer_to
  missing-answer h is l = rw is (refusal-line line_missing old h r now l)
