-- The ends of an import: each check that refuses, and a path that is copied.
use Rattle.std.specs.Prelude.{Err, Ok}
use Rattle.checks.specs.Checked.{Checked}
use Prim.Native.Nat.{ℕ, ◌+◌, ◌*◌, ◌<◌, ◌≤◌}
use mathlib.Core.Path.{◌≡◌, refl, sym, ◌∙◌}
use mathlib.Core.Bool.{Bool}
use mathlib.Core.List.{List, []}
use native.Mathlib.Numerals.{add-one}
use borrow.Author.Tests.{lt-ltb, le-ltb, eq-eqb, ne_eqb}
use lib.Dec.{ltb}
use lib.ListN.{length, take, drop, get_or, set, drop_of_length-le}
use lib.Seq.{sets, drop-cons, get_or-take, length-take-le}
use lib.Ieee.{Float}
use Rattle.checks.specs.declared.fault.Item.TheVariants.{Length, Room}
use Rattle.checks.specs.declared.fault.Place.{Place}
use Rattle.checks.specs.declared.fault.Fault.{Fault}
use Rattle.checks.specs.Fault.{at, refuse, later, whole}
use Rattle.checks.specs.Refusal as numbers
use Rattle.checks.specs.Laws.Later.{later-fine}
use Rattle.paths.specs.Path.{numbers_a_vertex, most_vertices}
use Rattle.dxf_form.specs.Refusal
use Rattle.dxf_read.specs.Import.{Path, Imports, line_fault}
use Rattle.dxf_read.specs.Workings.Finishing.{counted_by, room_by, finished_by}
use Rattle.dxf_read.specs.Laws.Finishing.{room-enough}

-- ---- the count, by what each call says

module _ (n count line : ℕ) where
  pub count-unmet : (count ≡ n → ⊥) → (f : Fault) → f ≡ line_fault Refusal.count line → Err f ≡ counted_by n count line
  unfolding counted_by
  count-unmet h f e = rw (ne_eqb count n h, e)

  module _ (met : count ≡ n) where
    pub path-long : most_vertices < n → (f : Fault) → f ≡ whole numbers.vertices Length → Err f ≡ counted_by n count line
    unfolding counted_by
    path-long h f e = rw (eq-eqb count n met, lt-ltb most_vertices n h, e)

    pub count-fine : n ≤ most_vertices → (Ok tt) ≡ counted_by n count line
    unfolding counted_by
    count-fine h = rw (eq-eqb count n met, le-ltb most_vertices n h)

-- ---- the copy: what is left to write after what stands gives the whole

module _ (from to all : List Float) (many i : ℕ) (long : many ≤ length from)
    (inv : sets to i (drop i (take many from)) ≡ all) where
  pub copy-end : many ≤ i → to ≡ all
  copy-end h =
      let over : length (take many from) ≤ i = rw (length-take-le many from long) h in
      let none : drop i (take many from) ≡ [] = drop_of_length-le (take many from) over in
      rw none at inv

  pub copy_more : i < many → (z : Float) → sets (set to i (get_or from i z)) (i + 1) (drop (i + 1) (take many from)) ≡ all
  copy_more h z =
      let inside : i < length (take many from) = rw (length-take-le many from long) h in
      let next = drop-cons (take many from) i z inside in
      let same = get_or-take many from i z h in
      rw (add-one i, ← same) (rw next at inv)

-- ---- the room: a path that is fine is copied

module _ (n : ℕ) (old : List Float) (checked : Checked) (p : Place) (place : p ≡ at 0 0 Room)
    (last : Checked) (room : last ≡ refuse (ltb (length old) (n * numbers_a_vertex)) Refusal.room p)
    (c : Checked) (both : c ≡ later checked last) where
  all-is : c ≡ later checked (room_by n (length old))
  unfolding room_by
  all-is = rw (← place, ← room) both

  pub enough : c ≡ Ok tt → n * numbers_a_vertex ≤ length old
  enough e = room-enough n (length old) ((later-fine _ _).0 (sym all-is ∙ e)).1

  module _ (buffer : List Float) (closed : Bool) where
    pub refused : (f : Fault) → c ≡ Err f
        → Imports (finished_by buffer n closed old (later checked (room_by n (length old)))) (Err f) old
    unfolding finished_by
    refused f e = rw (← all-is, e) (record { answer-is = refl; path-holds = refl })

    pub accepted : c ≡ Ok tt → (now : List Float) → now ≡ sets old 0 (take (n * numbers_a_vertex) buffer)
        → Imports (finished_by buffer n closed old (later checked (room_by n (length old)))) (Path n closed) now
    unfolding finished_by
    accepted e now holds = rw (← all-is, e) (record { answer-is = refl; path-holds = holds })
