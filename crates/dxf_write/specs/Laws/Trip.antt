-- Import of an export, with any checks of the path that hold without its traces too.
use Rattle.checks.specs.declared.fault.Fault.{Fault}
use Rattle.checks.specs.Checked.{Checked}
use Rattle.std.specs.Prelude.{◌≡◌, ℕ, ◌+◌, ◌≤◌, Bool, true, false, not, T, List, [], ◌∷◌, ◌++◌, length, take, drop, ◌==◌, nat_lt, Float, Result, Err, Ok}
use Rattle.std.proofs.Math.Path.{refl, ap}
use Rattle.std.proofs.Common.{sym, ◌∙◌, arith, le-ltb, ltb-false, eq-eqb}
use Rattle.std.proofs.Math.Logic.Iff
use Rattle.std.proofs.lemmas.List.Edits.{sets, sets-eq}
use Rattle.std.proofs.Math.Seq.{take-append_seam}
use Rattle.std.specs.Float.{binary64}
use Rattle.std.specs.Float.Ieee.{fits}
use Rattle.checks.specs.declared.fault.Item.TheVariants.{Line, Room}
use Rattle.checks.specs.Fault.{at, refuse, later}
use Rattle.checks.specs.First.{first}
use Rattle.checks.specs.Laws.Chains.{first-append}
use Rattle.checks.specs.Laws.Later.{later-fine}
use Rattle.paths.specs.Path.{vertex_count, number}
use Rattle.paths.specs.Shape
use Rattle.paths.specs.Laws.Along.{along-fine}
use Rattle.dxf_form.specs.Refusal
use Rattle.dxf_form.specs.Numbers.{Corner, path_of}
use Rattle.dxf_form.specs.Form.{Group, closed_by, count_line}
use Rattle.dxf_form.specs.Body.{body_of}
use Rattle.dxf_form.specs.Workings.Reader.{groups}
use Rattle.dxf_form.specs.Exactly.{accepted}
use Rattle.dxf_read.specs.Import as imports
use Rattle.dxf_read.specs.Import.{PathChecks}
use Rattle.dxf_write.specs.Written.{flag_of, body_bytes}
use Rattle.dxf_write.specs.Export.{corners_of, bytes_of, of_texts, text_checks, room_check, by_checks, export_after}
use Rattle.dxf_write.specs.Untraced.{untraced}
use Rattle.dxf_write.specs.Spelt.{body-spelt}
use Rattle.dxf_write.specs.Laws.Ends.{corners-long}
use Rattle.dxf_write.specs.Laws.Back.{vertex-back, path-back, refuse-fine}
use Rattle.dxf_write.specs.Laws.Checked.{same-long, same_shape}

-- ---- an export that answers bytes, after these checks

record Written (own : List Checked) (path : List Float) (closed : Bool) (old : List ℕ) (n : ℕ) : Type 0 where
  pub fine : first (own ++ (text_checks path ++ (room_check path closed old ∷ []))) ≡ Ok tt
  pub long : n ≡ length (bytes_of path closed)
  pub holds : (export_after own path closed old).text ≡ sets old 0 (bytes_of path closed)

abbrev tagged : Result ℕ Fault → ℕ
tagged (Ok k) = 0
tagged (Err f) = 1

abbrev count_of : ℕ → Result ℕ Fault → ℕ
count_of n (Ok k) = k
count_of n (Err f) = n

written : (own : List Checked) (path : List Float) (closed : Bool) (old : List ℕ) (n : ℕ)
    → (export_after own path closed old).answer ≡ Ok n → Written own path closed old n
unfolding export_after
written own path closed old n e = go (first (own ++ (text_checks path ++ (room_check path closed old ∷ [])))) refl e
  where
    go : (c : Checked) → first (own ++ (text_checks path ++ (room_check path closed old ∷ []))) ≡ c
        → (by_checks (bytes_of path closed) old c).answer ≡ Ok n → Written own path closed old n
    go (Ok _) is e = record {
      fine = is;
      long = sym (ap (count_of n) e);
      holds = ap (λ (c : Checked). (by_checks (bytes_of path closed) old c).text) is;
    }
    go (Err f) is e = let z : ◌≡◌ {A = ℕ} 1 0 = ap tagged e in absurd (omega arith)

-- ---- an import that finds nothing

import-fine : (own : PathChecks) (gs : List Group) (n f : ℕ) (vs : List Corner) (room : List Float)
    → body_of gs ≡ record { declared = n; flags-are = f; vertices = vs } → n ≡ length vs
    → Shape.shape (path_of vs) 0 ≡ Ok tt → first (own (path_of vs) (closed_by f) 0) ≡ Ok tt
    → length (path_of vs) ≤ length room
    → imports.by_groups_by own room (groups gs)
    ≡ record { answer = imports.Path (length vs) (closed_by f); path = sets room 0 (path_of vs) }
unfolding refuse
import-fine own gs n f vs room is counted shaped checked enough =
    let path = path_of vs in
    let count : refuse (not (n == length vs)) Refusal.count (at 0 (imports.told_line (count_line gs)) Line) ≡ (Ok tt) =
    rw (eq-eqb _ _ counted) in
    let fits : refuse (nat_lt (length room) (length path)) Refusal.room (at 0 0 Room) ≡ (Ok tt) = rw (le-ltb _ _ enough) in
    let last : List Checked = refuse (nat_lt (length room) (length path)) Refusal.room (at 0 0 Room) ∷ [] in
    let rest : first (own path (closed_by f) 0 ++ last) ≡ (Ok tt) =
    first-append (own path (closed_by f) 0) last ∙ (later-fine _ _).1 (checked, (later-fine _ _).1 (fits, refl)) in
    let all : first (imports.body_checks_by own gs room) ≡ (Ok tt) =
    rw is ((later-fine _ _).1 (count, (later-fine _ _).1 (shaped, rest))) in
    ap (imports.by_checks (body_of gs) room) all ∙ rw is

closed-back : (closed : Bool) → closed_by (flag_of closed) ≡ closed
closed-back true = refl
closed-back false = refl

-- ---- every number of the path is an f64, and it was exported as n bytes after its shape and these checks

module _ (own : PathChecks) (path : List Float) (closed : Bool) (old : List ℕ) (n : ℕ)
    (f64 : (k : ℕ) → T (fits binary64 (number path k)))
    (e : (export_after (Shape.shape path 0 ∷ own path closed 0) path closed old).answer ≡ Ok n) where
  abbrev before : List Checked
  before = Shape.shape path 0 ∷ own path closed 0

  abbrev w : Written before path closed old n
  w = written before path closed old n e

  -- each check found nothing
  in-turn : (first before ≡ Ok tt) × (first (text_checks path ++ (room_check path closed old ∷ [])) ≡ Ok tt)
  in-turn =
      (later-fine _ _).0 (sym (first-append before (text_checks path ++ (room_check path closed old ∷ []))) ∙ w.fine)

  shaped : Shape.shape path 0 ≡ Ok tt
  shaped = ((later-fine _ _).0 in-turn.0).0

  checked : first (own path closed 0) ≡ Ok tt
  checked = ((later-fine _ _).0 in-turn.0).1

  texts : (first (text_checks path) ≡ Ok tt) × (later (room_check path closed old) (Ok tt) ≡ Ok tt)
  texts = (later-fine _ _).0 (sym (first-append (text_checks path) (room_check path closed old ∷ [])) ∙ in-turn.1)

  inside : length (bytes_of path closed) ≤ length old
  inside = ltb-false _ _ (refuse-fine _ _ _ ((later-fine _ _).0 texts.1).0)

  -- the bytes are the front of the text
  pub front-is : take n (export_after before path closed old).text ≡ bytes_of path closed
  front-is =
      let b = bytes_of path closed in
      let zero : 0 + length b ≡ length b = omega arith in
      let whole : sets old 0 b ≡ b ++ drop (length b) old = rw zero at (sets-eq b old 0 (omega (arith, inside))) in
      ap (take n) (w.holds ∙ whole) ∙ ap (λ (k : ℕ). take k (b ++ drop (length b) old)) w.long ∙ take-append_seam b _

  -- the floats that are read
  read-path : path_of (corners_of path) ≡ untraced path
  read-path =
      path-back path
      (λ i l. vertex-back path f64 i ((along-fine (of_texts path) (vertex_count path) (λ j. Iff.rfl)).0 texts.0 i l))

  -- the same path is imported, if it has room and passes without its traces
  pub back : (Shape.shape path 0 ≡ Ok tt → first (own path closed 0) ≡ Ok tt → first (own (untraced path) closed 0) ≡ Ok tt)
      → (room : List Float) → length path ≤ length room
      → imports.import_by own (take n (export_after before path closed old).text) room
      ≡ record { answer = imports.Path (vertex_count path) closed; path = sets room 0 (untraced path) }
  unfolding bytes_of
  back same room enough =
      let vs = corners_of path in
      let r = (accepted (body_bytes closed vs) (length vs) (flag_of closed) vs).1 (body-spelt closed vs) in
      let is = read-path in
      let shape-fine : Shape.shape (path_of vs) 0 ≡ (Ok tt) = rw is (same_shape path closed shaped) in
      let checks-fine : first (own (path_of vs) (closed_by (flag_of closed)) 0) ≡ (Ok tt) =
      rw (is, closed-back closed) (same shaped checked) in
      let fits : length (path_of vs) ≤ length room = rw is (omega (arith, same-long path closed shaped, enough)) in
      ap (λ (t : List ℕ). imports.import_by own t room) front-is
      ∙ ap (imports.by_groups_by own room) r.read
      ∙ import-fine own r.gs (length vs) (flag_of closed) vs room r.is refl shape-fine checks-fine fits
      ∙ rw (is, closed-back closed, corners-long path 0 (vertex_count path))
