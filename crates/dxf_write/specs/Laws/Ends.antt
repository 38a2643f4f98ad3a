-- The ends of an export: a check refuses the path, a number has no text, there is too little room, or the whole text is put.
use Rattle.checks.specs.Checked.{Checked}
use Rattle.std.specs.Prelude.{◌≡◌, ℕ, zero, suc, ◌+◌, ◌*◌, ◌<◌, ◌≤◌, Bool, true, false, List, [], ◌∷◌, ◌++◌, length, refl, Float, Result, Err, Ok}
use Rattle.std.proofs.Common.{sym, ◌∙◌, arith, lt-ltb, le-ltb, length-append}
use Rattle.std.proofs.Math.Path.{ap}
use Rattle.checks.specs.declared.fault.Item.TheVariants.{Room}
use Rattle.checks.specs.declared.fault.Fault.{Fault}
use Rattle.checks.specs.Fault.{refuse, later, whole}
use Rattle.checks.specs.First.{first}
use Rattle.checks.specs.Laws.Chains.{first-append}
use Rattle.checks.specs.Laws.Later.{fine-right}
use Rattle.paths.specs.Path.{vertex_count, most_vertices}
use Rattle.paths.specs.Shape
use Rattle.paths.specs.Laws.RefusalNumbers.{shape-few}
use Rattle.put_text.specs.Decimal.{decimal, decimal_in}
use Rattle.put_text.specs.Workings.Put.{Put}
use Rattle.put_text.specs.Laws.Put.{put-join}
use Rattle.dxf_form.specs.Refusal
use Rattle.dxf_form.specs.Form.{count_code, flags_code}
use Rattle.dxf_read.specs.Import.{PathChecks}
use Rattle.dxf_write.specs.Written.{group_bytes, vertices_bytes, flag_of, body_bytes}
use Rattle.dxf_write.specs.Export.{
  corners_from,
  corners_of,
  bytes_of,
  text_checks,
  room_check,
  export_after,
  Exports,
}
use Rattle.dxf_write.specs.Workings.Told.{vertex_most, MeasureTold, Written}
use Rattle.dxf_write.specs.Laws.Put.{group-long}

-- ---- the length of a text

pub corners-long : (path : List Float) (i k : ℕ) → length (corners_from path i k) ≡ k
corners-long path i zero = refl
corners-long path i (suc k) = ap suc (corners-long path (i + 1) k)

count-digits : length (decimal count_code) ≡ 2
unfolding decimal decimal_in
count-digits = refl

flags-digits : length (decimal flags_code) ≡ 2
unfolding decimal decimal_in
flags-digits = refl

flag-digit : (closed : Bool) → length (decimal (flag_of closed)) ≡ 1
unfolding decimal decimal_in
flag-digit true = refl
flag-digit false = refl

-- the two groups in front of the vertices
count_long : (path : List Float)
    → length (group_bytes count_code (decimal (vertex_count path))) ≡ length (decimal (vertex_count path)) + 4
count_long path = omega (arith, group-long count_code (decimal (vertex_count path)), count-digits)

flags_long : (closed : Bool) → length (group_bytes flags_code (decimal (flag_of closed))) ≡ 5
flags_long closed = omega (arith, group-long flags_code (decimal (flag_of closed)), flags-digits, flag-digit closed)

module _ (path : List Float) (closed : Bool) where
  text-is : bytes_of path closed
      ≡ group_bytes count_code (decimal (vertex_count path))
      ++ (group_bytes flags_code (decimal (flag_of closed)) ++ vertices_bytes (corners_of path))
  unfolding bytes_of body_bytes
  text-is =
      ap
      (λ (n : ℕ). group_bytes count_code (decimal n)
      ++ (group_bytes flags_code (decimal (flag_of closed)) ++ vertices_bytes (corners_of path)))
      (corners-long path 0 (vertex_count path))

  text-long : length (bytes_of path closed)
      ≡ length (vertices_bytes (corners_of path)) + length (decimal (vertex_count path)) + 9
  text-long =
      let a = group_bytes count_code (decimal (vertex_count path)) in
      let b = group_bytes flags_code (decimal (flag_of closed)) in
      let c = vertices_bytes (corners_of path) in
      let joined = ap length text-is in
      omega (arith, joined, length-append a (b ++ c), length-append b c, count_long path, flags_long closed)

-- ---- by the first fault

module _ (checks : List Checked) (path : List Float) (closed : Bool) (old : List ℕ) where
  abbrev all : Checked
  all = first (checks ++ (text_checks path ++ (room_check path closed old ∷ [])))

  ends-bad : {f : Fault} → all ≡ Err f → Exports (export_after checks path closed old) (Err f) old
  unfolding export_after
  ends-bad e = record { answer-is = rw e; text-holds = rw e }

  ends-fine : {next : ℕ} {now : List ℕ} → all ≡ Ok tt → Put (bytes_of path closed) old 0 now next
      → Exports (export_after checks path closed old) (Ok next) now
  unfolding export_after
  ends-fine {next} {now} e p =
      let long : next ≡ length (bytes_of path closed) = omega (arith, p.after) in
      record { answer-is = rw (e, long); text-holds = rw e p.holds }

-- ---- after the path's own checks

in-turn : (path : List Float) (closed : Bool) (old : List ℕ)
    → all [] path closed old ≡ later (first (text_checks path)) (room_check path closed old)
in-turn path closed old =
    first-append (text_checks path) (room_check path closed old ∷ [])
    ∙ ap (later (first (text_checks path))) (fine-right (room_check path closed old))

-- no sum of a few sizes overflows
pub size_few : (path : List Float) (m : Result ℕ Fault) {size : ℕ} → MeasureTold path m → m ≡ Ok size
    → size ≤ most_vertices * vertex_most
size_few path m told e = let t = rw e at told in t.2

module _ (path : List Float) (closed : Bool) (old : List ℕ) (m : Result ℕ Fault) (told : MeasureTold path m) where
  pub text-refused : {f : Fault} → m ≡ Err f → Exports (export_after [] path closed old) (Err f) old
  unfolding later
  text-refused {f} e =
      let bad : first (text_checks path) ≡ Err f = rw e at told in
      ends-bad [] path closed old (in-turn path closed old ∙ ap (λ (c : Checked). later c (room_check path closed old)) bad)

  module _ {size : ℕ} (e : m ≡ Ok size) where
    measured : (first (text_checks path) ≡ Ok tt) × (size ≡ length (vertices_bytes (corners_of path)))
    measured = let t = rw e at told in (t.0, t.1)

    last : all [] path closed old ≡ room_check path closed old
    unfolding later
    last = in-turn path closed old ∙ ap (λ (c : Checked). later c (room_check path closed old)) measured.0

    module _ (n d : ℕ) (counted : n ≡ vertex_count path) (long : d ≡ length (decimal n)) where
      whole_long : length (bytes_of path closed) ≡ size + d + 9
      whole_long =
          let digits = long ∙ ap (λ (k : ℕ). length (decimal k)) counted in
          omega (arith, text-long path closed, measured.1, digits)

      pub no_room : {f : Fault} → length old < size + d + 9 → f ≡ whole Refusal.room Room
          → Exports (export_after [] path closed old) (Err f) old
      unfolding refuse
      no_room h is =
          let short : length old < length (bytes_of path closed) = omega (arith, whole_long) in
          ends-bad [] path closed old (last ∙ rw (lt-ltb _ _ short, is))

      module _ (h : size + d + 9 ≤ length old) where
        pub count_fits : 0 + length (group_bytes count_code (decimal n)) ≤ length old
        count_fits = omega (arith, group-long count_code (decimal n), count-digits)

        module _ {o1 : List ℕ} {p1 : ℕ} (count : Put (group_bytes count_code (decimal n)) old 0 o1 p1)
            (same : length o1 ≡ length old) (k : ℕ) (flag : k ≡ flag_of closed) where
          flag-long : length (group_bytes flags_code (decimal k)) ≡ 5
          flag-long = rw flag (flags_long closed)

          pub flags-fit : p1 + length (group_bytes flags_code (decimal k)) ≤ length o1
          flags-fit = omega (arith, count.after, group-long count_code (decimal n), count-digits, flag-long)

          module _ {o2 : List ℕ} {p2 : ℕ} (flags : Put (group_bytes flags_code (decimal k)) o1 p1 o2 p2)
              (same2 : length o2 ≡ length o1) where
            pub vertices-fit : p2 + length (vertices_bytes (corners_of path)) ≤ length o2
            vertices-fit =
                omega (arith, count.after, flags.after, group-long count_code (decimal n), count-digits, flag-long, measured.1)

            pub all-written : {o3 : List ℕ} {p3 : ℕ} → Written path o2 p2 o3 p3
                → Exports (export_after [] path closed old) (Ok p3) o3
            unfolding refuse
            all-written {o3} {p3} vertices =
                let fits : length (bytes_of path closed) ≤ length old = omega (arith, whole_long) in
                let put = put-join count (put-join flags (vertices measured.0)) in
                let all-put : Put (bytes_of path closed) old 0 o3 p3 =
                rw (text-is path closed) (rw (counted, flag) at put) in
                ends-fine [] path closed old (last ∙ rw (le-ltb _ _ fits)) all-put

-- ---- the path's own checks: its shape, then those of its numbers and arcs

-- a path that is not too long
pub short-enough : (path : List Float) {s : Checked} → s ≡ Shape.shape path 0 → s ≡ Ok tt → vertex_count path ≤ most_vertices
short-enough path shaped e = shape-few path 0 (sym shaped ∙ e)

module _ (checks : PathChecks) (path : List Float) (closed : Bool) (old : List ℕ) {s : Checked}
    (shaped : s ≡ Shape.shape path 0) where
  abbrev before : List Checked
  before = Shape.shape path 0 ∷ checks path closed 0

  pub shape-refused : {f : Fault} → s ≡ Err f → Exports (export_after before path closed old) (Err f) old
  unfolding later
  shape-refused e = ends-bad before path closed old (rw (sym shaped ∙ e))

  module _ {c : Checked} (checked : c ≡ later s (first (checks path closed 0))) where
    own : first before ≡ c
    own = sym (checked ∙ ap (λ (t : Checked). later t (first (checks path closed 0))) shaped)

    in_order : all before path closed old ≡ later c (all [] path closed old)
    in_order =
        first-append before (text_checks path ++ (room_check path closed old ∷ []))
        ∙ ap (λ (t : Checked). later t (all [] path closed old)) own

    pub path-refused : {f : Fault} → c ≡ Err f → Exports (export_after before path closed old) (Err f) old
    unfolding later
    path-refused e =
        ends-bad before path closed old (in_order ∙ ap (λ (t : Checked). later t (all [] path closed old)) e)

    pub path-fine : c ≡ Ok tt → {r : Result ℕ Fault} {now : List ℕ} → Exports (export_after [] path closed old) r now
        → Exports (export_after before path closed old) r now
    unfolding export_after later
    path-fine e x =
        let same = in_order ∙ ap (λ (t : Checked). later t (all [] path closed old)) e in
        record { answer-is = rw same x.answer-is; text-holds = rw same x.text-holds }
