-- One pass over a text, group by group: what is left, read after what was read, gives what the whole gives.
use Rattle.std.specs.Prelude.{ℕ, ◌+◌, ◌*◌, ◌-◌, ◌<◌, ◌≤◌, Bool, ltb, set, ℤ, pos, Float, Result, Err, Ok}
use Rattle.std.proofs.Math.Path.{◌≡◌, refl, sym, ap}
use Rattle.std.proofs.Common.{◌∙◌, true≢false, arith, length-append, length-set, length-drop, drop_of_length-le}
use Rattle.std.proofs.Math.Bool.{true, false, cond}
use mathlib.Core.List.{List, [], ◌∷◌, ◌++◌}
use borrow.Author.Tests.{lt-ltb, le-ltb, eqb-true, eqb-false}
use Rattle.std.proofs.Math.Dec.{eqb}
use Rattle.std.proofs.Math.ListN.{length, drop}
use Rattle.std.proofs.Math.Seq.{sets, length-sets}
use Rattle.layouts.specs.Layout.{whole}
use Rattle.paths.specs.Path.{numbers_a_vertex, most_vertices}
use Rattle.dxf_form.specs.Numbers.{Corner, value, trace, path_of}
use Rattle.dxf_form.specs.Form.{Group, count, flags, x, y, bulge, other, closed_by, count_line, blanks}
use Rattle.dxf_form.specs.Body.{Body, at_last, with_y, with_bulge, taken, taken_all, empty_body, body_of}
use Rattle.dxf_form.specs.Order.{turn_at, turn_of, out_of_place, after, may_end}
use Rattle.dxf_form.specs.Refusal
use Rattle.dxf_form.specs.Workings.Reader as reader
use Rattle.dxf_form.specs.Workings.Reader.{Read, fault_at, groups, before, carried_on, pair_of, read_from, read_groups, fault, pair}
use Rattle.dxf_form.specs.Workings.Reader.{Got, nothing, got, cut, over, Passed}
use Rattle.dxf_form.specs.Laws.Pairs.{pair-spelt}
use Rattle.dxf_form.specs.Laws.Steps.{read_step}
use Rattle.dxf_form.specs.declared.order.Due.{Due}
use Rattle.dxf_form.specs.declared.order.Due.TheVariants as Due·
use Rattle.dxf_form.specs.declared.order.Turn.{Turn}
use Rattle.dxf_form.specs.declared.order.Turn.TheVariants as Turn·
use Rattle.dxf_read.specs.Workings.Kept as code
use Rattle.dxf_read.specs.Workings.Kept.{kept_group, kept_pair}
use Rattle.dxf_read.specs.Workings.Pairs.{faulty, group_by, shown_pair, InTurn}
use Rattle.dxf_read.specs.Workings.Scanning.{stepped, started, changed, stored, line_after, vertices_after, BodyRead}
use Rattle.dxf_read.specs.Laws.Groups.{pair-of-lem}
use Rattle.dxf_read.specs.Laws.Bodies.{kept_all, kept_body, body_kept, path-kept, closed-kept, many-kept}
use Rattle.dxf_read.specs.Laws.Stores.{more-path, last-y, last-bulge, last-length, last_none}
use Rattle.dxf_read.specs.declared.scan.State.{State}
use Rattle.dxf_read.specs.declared.pair.Pair.{Pair}
use Rattle.dxf_read.specs.declared.fault.LineFault.{LineFault}

-- ---- the state holds what the groups so far give, their numbers as they are kept

pub record Holds (b : Body) (s : State) (out old : List Float) : Type 0 where
  pub n-is : s.vertices ≡ length b.vertices
  pub count-is : s.count ≡ b.declared
  pub closed_is : s.closed ≡ closed_by b.flags-are
  pub floats : s.vertices ≤ most_vertices → out ≡ sets old 0 (path_of b.vertices)

module _ (vs : List Corner) (n : ℕ) (out old : List Float) (z : ℤ) (is : n ≡ length vs)
    (floats : n ≤ most_vertices → out ≡ sets old 0 (path_of vs)) where
  start-floats : n + 1 ≤ most_vertices
      → started (value z) n out ≡ sets old 0 (path_of (vs ++ (record { x = z; y = pos 0; bulge = pos 0 } ∷ [])))
  unfolding started
  start-floats h =
      rw (lt-ltb n most_vertices (omega arith), floats (omega arith), is) (more-path vs old z)

  module _ (h : n ≤ most_vertices) where
    last-at : (k : ℕ) → (n - 1) * numbers_a_vertex + k ≡ 0 + ((length vs - 1) * 4 + k)
    last-at k = omega arith

    y-floats : changed 1 (value z) n out ≡ sets old 0 (path_of (at_last (with_y z) vs))
    unfolding changed
    y-floats = go (eqb n 0) refl
      where
        go : (none : Bool) → eqb n 0 ≡ none
            → cond none out (cond (ltb most_vertices n) out (set out ((n - 1) * numbers_a_vertex + 1) (value z)))
            ≡ sets old 0 (path_of (at_last (with_y z) vs))
        go true e =
            let empty : length vs ≡ 0 = sym is ∙ eqb-true n 0 e in
            floats h ∙ ap (λ (ws : List Corner). sets old 0 (path_of ws)) (sym (last_none (with_y z) vs empty))
        go false e =
            let some : 0 < length vs = omega (arith, eqb-false n 0 e) in
            rw (le-ltb most_vertices n h, last-at 1, floats h) (last-y vs old 0 z some)

    bulge-floats : changed 2 (value z) n out ≡ sets old 0 (path_of (at_last (with_bulge z) vs))
    unfolding changed
    bulge-floats = go (eqb n 0) refl
      where
        go : (none : Bool) → eqb n 0 ≡ none
            → cond none out (cond (ltb most_vertices n) out (set out ((n - 1) * numbers_a_vertex + 2) (value z)))
            ≡ sets old 0 (path_of (at_last (with_bulge z) vs))
        go true e =
            let empty : length vs ≡ 0 = sym is ∙ eqb-true n 0 e in
            floats h ∙ ap (λ (ws : List Corner). sets old 0 (path_of ws)) (sym (last_none (with_bulge z) vs empty))
        go false e =
            let some : 0 < length vs = omega (arith, eqb-false n 0 e) in
            rw (le-ltb most_vertices n h, last-at 2, floats h) (last-bulge vs old 0 z some)

holds-step : (b : Body) (s : State) (out old : List Float) (turn : Turn) (negative : Bool) (number lines : ℕ) → Holds b s out old
    → Holds (taken b (group_by turn negative number)) (stepped s turn number lines)
    (stored turn (value (whole negative number)) s.vertices out) old
unfolding taken stepped
holds-step b s out old Turn·.Count negative number lines h =
    record { n-is = h.n-is; count-is = refl; closed_is = h.closed_is; floats = h.floats }
holds-step b s out old Turn·.Flags negative number lines h =
    record { n-is = h.n-is; count-is = h.count-is; closed_is = refl; floats = h.floats }
holds-step b s out old Turn·.X negative number lines h =
    let v : Corner = record { x = whole negative number; y = pos 0; bulge = pos 0 } in
    record {
      n-is = omega (arith, h.n-is, length-append b.vertices (v ∷ []));
      count-is = h.count-is;
      closed_is = h.closed_is;
      floats = start-floats b.vertices s.vertices out old (whole negative number) h.n-is h.floats;
    }
holds-step b s out old Turn·.Y negative number lines h =
    record {
      n-is = h.n-is ∙ sym (last-length (with_y (whole negative number)) b.vertices);
      count-is = h.count-is;
      closed_is = h.closed_is;
      floats = y-floats b.vertices s.vertices out old (whole negative number) h.n-is h.floats;
    }
holds-step b s out old Turn·.Bulge negative number lines h =
    record {
      n-is = h.n-is ∙ sym (last-length (with_bulge (whole negative number)) b.vertices);
      count-is = h.count-is;
      closed_is = h.closed_is;
      floats = bulge-floats b.vertices s.vertices out old (whole negative number) h.n-is h.floats;
    }
holds-step b s out old Turn·.Other negative number lines h = h
holds-step b s out old Turn·.OutOfPlace negative number lines h = h

start-length : (v : Float) (n : ℕ) (out : List Float) → length (started v n out) ≡ length out
unfolding started
start-length v n out = go (ltb n most_vertices)
  where
    go : (c : Bool) → length (cond c (sets out (n * numbers_a_vertex) (v ∷ trace ∷ trace ∷ trace ∷ [])) out) ≡ length out
    go true = length-sets out (n * numbers_a_vertex) (v ∷ trace ∷ trace ∷ trace ∷ [])
    go false = refl

change-length : (k : ℕ) (v : Float) (n : ℕ) (out : List Float) → length (changed k v n out) ≡ length out
unfolding changed
change-length k v n out = go (eqb n 0) (ltb most_vertices n)
  where
    go : (c d : Bool) → length (cond c out (cond d out (set out ((n - 1) * numbers_a_vertex + k) v))) ≡ length out
    go true d = refl
    go false true = refl
    go false false = length-set out ((n - 1) * numbers_a_vertex + k) v

pub stored-length : (turn : Turn) (v : Float) (n : ℕ) (out : List Float) → length (stored turn v n out) ≡ length out
stored-length Turn·.Count v n out = refl
stored-length Turn·.Flags v n out = refl
stored-length Turn·.X v n out = start-length v n out
stored-length Turn·.Y v n out = change-length 1 v n out
stored-length Turn·.Bulge v n out = change-length 2 v n out
stored-length Turn·.Other v n out = refl
stored-length Turn·.OutOfPlace v n out = refl

-- ---- what is left, after what was read

-- the refusal's number and the line at fault; or what all groups give, and the line of the value of 90
pub data Done : Type 0 where
  broken : ℕ → ℕ → Done
  read : Body → ℕ → Done

-- the line of the value of 90, which stands among these groups if it is due
abbrev pub line_of : Due → ℕ → ℕ → List Group → ℕ
line_of Due·.Count lines line gs = lines + count_line gs
line_of Due·.Flags lines line gs = line
line_of Due·.Vertex lines line gs = line
line_of Due·.Y lines line gs = line
line_of Due·.Bulge lines line gs = line

abbrev pub done : Due → Body → ℕ → ℕ → Read → Done
done due b lines line (fault_at number at) = broken number at
done due b lines line (groups gs) = read (taken_all b (kept_all gs)) (line_of due lines line gs)

line_step : (due : Due) (g : Group) (lines line : ℕ) (gs : List Group)
    → line_of due lines line (g ∷ gs) ≡ line_of (after due (turn_of due g)) (lines + 2) (line_after (turn_of due g) lines line) gs
line_step Due·.Count (count n) lines line gs = refl
line_step Due·.Count (flags n) lines line gs = omega arith
line_step Due·.Count (x z) lines line gs = omega arith
line_step Due·.Count (y z) lines line gs = omega arith
line_step Due·.Count (bulge z) lines line gs = omega arith
line_step Due·.Count other lines line gs = omega arith
line_step Due·.Flags (count n) lines line gs = refl
line_step Due·.Flags (flags n) lines line gs = refl
line_step Due·.Flags (x z) lines line gs = refl
line_step Due·.Flags (y z) lines line gs = refl
line_step Due·.Flags (bulge z) lines line gs = refl
line_step Due·.Flags other lines line gs = refl
line_step Due·.Vertex (count n) lines line gs = refl
line_step Due·.Vertex (flags n) lines line gs = refl
line_step Due·.Vertex (x z) lines line gs = refl
line_step Due·.Vertex (y z) lines line gs = refl
line_step Due·.Vertex (bulge z) lines line gs = refl
line_step Due·.Vertex other lines line gs = refl
line_step Due·.Y (count n) lines line gs = refl
line_step Due·.Y (flags n) lines line gs = refl
line_step Due·.Y (x z) lines line gs = refl
line_step Due·.Y (y z) lines line gs = refl
line_step Due·.Y (bulge z) lines line gs = refl
line_step Due·.Y other lines line gs = refl
line_step Due·.Bulge (count n) lines line gs = refl
line_step Due·.Bulge (flags n) lines line gs = refl
line_step Due·.Bulge (x z) lines line gs = refl
line_step Due·.Bulge (y z) lines line gs = refl
line_step Due·.Bulge (bulge z) lines line gs = refl
line_step Due·.Bulge other lines line gs = refl

done-step : (due : Due) (b : Body) (lines line : ℕ) (g : Group) (r : Read)
    → done due b lines line (before g r)
    ≡ done (after due (turn_of due g)) (taken b (kept_group g)) (lines + 2) (line_after (turn_of due g) lines line) r
unfolding taken_all
done-step due b lines line g (fault_at number at) = refl
done-step due b lines line g (groups gs) =
    ap (read (taken_all (taken b (kept_group g)) (kept_all gs))) (line_step due g lines line gs)

on_step : (due : Due) (b : Body) (lines line : ℕ) (t rest : List ℕ) (g : Group) (turn : Turn) (k : Group) (all : Done)
    → 0 < length t → pair_of due t ≡ pair g rest → kept_group g ≡ k → turn_of due g ≡ turn
    → done due b lines line (read_from (length t) due lines t) ≡ all
    → done (after due turn) (taken b k) (lines + 2) (line_after turn lines line)
    (read_from (length rest) (after due turn) (lines + 2) rest)
    ≡ all
on_step due b lines line t rest g turn k all some is kept-is turn_is before-it =
    let here = read_step due lines t some ∙ ap (carried_on lines _) is in
    let left = read_from (length rest) (after due (turn_of due g)) (lines + 2) rest in
    let on = sym (done-step due b lines line g left) ∙ sym (ap (done due b lines line) here) ∙ before-it in
    rw (← kept-is, ← turn_is) on

broken-read : (r : Read) (number at : ℕ) → broken number at ≡ done Due·.Count empty_body 0 0 r → r ≡ fault_at number at
broken-read (fault_at n l) number at e =
    let one : n ≡ number = cc in
    let two : l ≡ at = cc in
    rw (one, two)
broken-read (groups gs) number at e = let z : ◌≡◌ {A = ℕ} 0 1 = cc in absurd (omega arith)

pub record AllRead (r : Read) (b : Body) (line : ℕ) : Type 0 where
  pub gs : List Group
  pub is : r ≡ groups gs
  pub body : b ≡ kept_body (body_of gs)
  pub line-is : line ≡ count_line gs

all_read : (r : Read) (b : Body) (line : ℕ) → read b line ≡ done Due·.Count empty_body 0 0 r → AllRead r b line
all_read (fault_at n l) b line e = let z : ◌≡◌ {A = ℕ} 0 1 = cc in absurd (omega arith)
all_read (groups gs) b line e =
    let one : b ≡ taken_all empty_body (kept_all gs) = cc in
    let two : line ≡ 0 + count_line gs = cc in
    record { gs = gs; is = refl; body = one ∙ body_kept gs; line-is = omega (arith, two) }

-- ---- the pair that was read

turn-same : (due : Due) (g : Group) → turn_of due (kept_group g) ≡ turn_of due g
turn-same due (count n) = refl
turn-same due (flags n) = refl
turn-same due (x z) = refl
turn-same due (y z) = refl
turn-same due (bulge z) = refl
turn-same due other = refl

pub record PairGot (due : Due) (text : List ℕ) (p : Pair) (rest : List ℕ) : Type 0 where
  pub g : Group
  pub is : pair_of due text ≡ pair g rest
  pub kept-is : kept_group g ≡ group_by p.turn (eqb p.minuses 1) p.number
  pub turn_is : turn_of due g ≡ p.turn

module _ (due : Due) (text t : List ℕ) where
  pair-got : (p : Pair) → shown_pair text (Ok p) ≡ code.pair_of due t → InTurn due (Ok p) → PairGot due t p (drop p.next text)
  unfolding shown_pair
  pair-got p is in-turn = go (pair_of due t) refl (is ∙ pair-of-lem due t)
    where
      go : (r : reader.Pair) → pair_of due t ≡ r → pair (group_by p.turn (eqb p.minuses 1) p.number) (drop p.next text) ≡ kept_pair r
          → PairGot due t p (drop p.next text)
      go (fault n l) e k = let z : ◌≡◌ {A = ℕ} 0 1 = cc in absurd (omega arith)
      go (pair g rest) e k =
          let one : kept_group g ≡ group_by p.turn (eqb p.minuses 1) p.number = cc in
          let two : rest ≡ drop p.next text = cc in
          record {
            g = g;
            is = e ∙ ap (pair g) two;
            kept-is = one;
            turn_is = sym (turn-same due g) ∙ ap (turn_of due) one ∙ in-turn;
          }

  pair-fault : (number line : ℕ) → shown_pair text (faulty number line) ≡ code.pair_of due t → pair_of due t ≡ fault number line
  unfolding shown_pair
  pair-fault number line is = go (pair_of due t) refl (is ∙ pair-of-lem due t)
    where
      go : (p : reader.Pair) → pair_of due t ≡ p → fault number line ≡ kept_pair p → pair_of due t ≡ fault number line
      go (fault n l) e k = e ∙ sym k
      go (pair g rest) e k = let z : ◌≡◌ {A = ℕ} 0 1 = cc in absurd (omega arith)

-- a group has three bytes at least: a digit and two newlines
pair-long : (due : Due) (t : List ℕ) (g : Group) (rest : List ℕ) → pair_of due t ≡ pair g rest → 3 + length rest ≤ length t
pair-long due t g rest e =
    let s = pair-spelt due t e in
    let w = s.code in
    let one = length-append s.line (10 ∷ (s.value ++ (10 ∷ rest))) in
    let two = length-append s.value (10 ∷ rest) in
    let three = length-append (blanks w.before) w.digits in
    let line = ap length w.is in
    let all = ap length s.is in
    omega (arith, w.some, one, two, three, line, all)

-- the line at fault is the first or the second
abbrev line_in : reader.Pair → ℕ
line_in (fault number line) = line
line_in (pair g rest) = 0

whole-within : (f : ℕ → Group) (v : Got ℕ) → line_in (reader.whole_value f v) ≤ 2
whole-within f nothing = omega arith
whole-within f (got n rest) = omega arith

number-within : (f : ℤ → Group) (v : Got ℤ) → line_in (reader.number_value f v) ≤ 2
number-within f nothing = omega arith
number-within f (got z rest) = omega arith

skipped-within : (v : Passed) → line_in (reader.skipped_value v) ≤ 2
skipped-within cut = omega arith
skipped-within (over rest) = omega arith

value-within : (turn : Turn) (t : List ℕ) → line_in (reader.value_for turn t) ≤ 2
value-within Turn·.Count t = whole-within count (reader.whole_line t)
value-within Turn·.Flags t = whole-within flags (reader.whole_line t)
value-within Turn·.X t = number-within x (reader.number_line t)
value-within Turn·.Y t = number-within y (reader.number_line t)
value-within Turn·.Bulge t = number-within bulge (reader.number_line t)
value-within Turn·.Other t = skipped-within (reader.skip_line t)
value-within Turn·.OutOfPlace t = omega arith

after-within : (out none : Bool) (p : reader.Pair) → line_in p ≤ 2
    → line_in (cond out (fault Refusal.group 1) (cond none (fault Refusal.group 2) p)) ≤ 2
after-within true none p h = omega arith
after-within false true p h = omega arith
after-within false false p h = h

code-within : (due : Due) (v : Got ℕ) → line_in (reader.by_code due v) ≤ 2
code-within due nothing = omega arith
code-within due (got c rest) =
    after-within (out_of_place (turn_at due c)) (reader.is_empty rest) (reader.value_for (turn_at due c) rest)
    (value-within (turn_at due c) rest)

fault-within : (due : Due) (t : List ℕ) (number line : ℕ) → pair_of due t ≡ fault number line → line ≤ 2
unfolding pair_of
fault-within due t number line e =
    let h = code-within due (reader.whole_line t) in
    let same : line_in (reader.by_code due (reader.whole_line t)) ≡ line = ap line_in e in
    omega (arith, h, same)

-- ---- the pass

pub record Scanning (text : List ℕ) (old : List Float) (at : ℕ) (due : Due) (lines : ℕ) (s : State) (out : List Float)
    : Type 0 where
  pub body : Body
  pub goes_on : done due body lines s.count_line (read_from (length (drop at text)) due lines (drop at text))
      ≡ done Due·.Count empty_body 0 0 (read_groups text)
  pub holds : Holds body s out old
  pub few-lines : 3 * lines + 2 * length (drop at text) ≤ 2 * length text
  pub few-vertices : 2 * s.vertices ≤ lines
  pub long : length out ≡ length old

pub scan-start : (text : List ℕ) (old : List Float)
    → Scanning text old 0 Due·.Count 0 (record { vertices = 0; count = 0; count_line = 0; closed = false }) old
unfolding read_groups
scan-start text old =
    record {
      body = empty_body;
      goes_on = refl;
      holds = record { n-is = refl; count-is = refl; closed_is = refl; floats = λ h. refl };
      few-lines = omega arith;
      few-vertices = omega arith;
      long = refl;
    }

one_more : (turn : Turn) (n : ℕ) → vertices_after turn n ≤ n + 1
one_more Turn·.Count n = omega arith
one_more Turn·.Flags n = omega arith
one_more Turn·.X n = omega arith
one_more Turn·.Y n = omega arith
one_more Turn·.Bulge n = omega arith
one_more Turn·.Other n = omega arith
one_more Turn·.OutOfPlace n = omega arith

some_left : (text : List ℕ) (at : ℕ) → at < length text → 0 < length (drop at text)
some_left text at h = omega (arith, length-drop at text)

module _ {text : List ℕ} {old : List Float} {at : ℕ} {due : Due} {lines : ℕ} {s : State} {out : List Float}
    (sc : Scanning text old at due lines s out) where
  -- a group
  module _ (inside : at < length text) {r : Result Pair LineFault} (is : shown_pair text r ≡ code.pair_of due (drop at text)) where
    pub scan-fault : {f : LineFault} → r ≡ Err f → read_groups text ≡ fault_at f.number (lines + f.line)
    scan-fault {f} e =
        let p = pair-fault due text (drop at text) f.number f.line (ap (shown_pair text) (sym e) ∙ is) in
        let step = read_step due lines (drop at text) (some_left text at inside) in
        let here = step ∙ ap (carried_on lines _) p in
        broken-read (read_groups text) f.number (lines + f.line)
        (sym (ap (done due sc.body lines s.count_line) here) ∙ sc.goes_on)

    pub scan-line : {f : LineFault} → r ≡ Err f → f.line ≤ 2
    scan-line {f} e =
        fault-within due (drop at text) f.number f.line
        (pair-fault due text (drop at text) f.number f.line (ap (shown_pair text) (sym e) ∙ is))

    module _ (in-turn : InTurn due r) {p : Pair} (e : r ≡ Ok p) where
      got-here : PairGot due (drop at text) p (drop p.next text)
      got-here =
          let right : InTurn due (Ok p) = rw e at in-turn in
          pair-got due text (drop at text) p (ap (shown_pair text) (sym e) ∙ is) right

      pub scan-shorter : 3 + length (drop p.next text) ≤ length (drop at text)
      scan-shorter = let h = got-here in pair-long due (drop at text) h.g (drop p.next text) h.is

      pub scan-more : Scanning text old p.next (after due p.turn) (lines + 2) (stepped s p.turn p.number lines)
          (stored p.turn (value (whole (eqb p.minuses 1) p.number)) s.vertices out)
      unfolding stepped
      scan-more =
          let h = got-here in
          record {
            body = taken sc.body (group_by p.turn (eqb p.minuses 1) p.number);
            goes_on =
                on_step due sc.body lines s.count_line (drop at text) (drop p.next text) h.g p.turn
                (group_by p.turn (eqb p.minuses 1) p.number) _ (some_left text at inside) h.is h.kept-is h.turn_is sc.goes_on;
            holds = holds-step sc.body s out old p.turn (eqb p.minuses 1) p.number lines sc.holds;
            few-lines = omega (arith, scan-shorter, sc.few-lines);
            few-vertices = omega (arith, one_more p.turn s.vertices, sc.few-vertices);
            long = stored-length p.turn (value (whole (eqb p.minuses 1) p.number)) s.vertices out ∙ sc.long;
          }

      pub scan-next : {due2 : Due} {s2 : State} {out2 : List Float}
          → out2 ≡ stored p.turn (value (whole (eqb p.minuses 1) p.number)) s.vertices out → s2 ≡ stepped s p.turn p.number lines
          → due2 ≡ after due p.turn → Scanning text old p.next due2 (lines + 2) s2 out2
      scan-next a b c = rw (a, b, c) scan-more

  -- the end of the text
  module _ (over-all : length text ≤ at) where
    end_read : done due sc.body lines s.count_line (reader.text_end due lines)
        ≡ done Due·.Count empty_body 0 0 (read_groups text)
    unfolding read_from
    end_read = rw (drop_of_length-le text over-all) at sc.goes_on

    pub scan-cut : may_end due ≡ false → read_groups text ≡ fault_at Refusal.group (lines + 1)
    scan-cut e = broken-read (read_groups text) Refusal.group (lines + 1) (rw e at end_read)

    -- the value of 90 was read if the text may end
    line_read : (d : Due) (line : ℕ) → may_end d ≡ true → line_of d lines line [] ≡ line
    line_read Due·.Count line e = absurd (true≢false (sym e))
    line_read Due·.Flags line e = absurd (true≢false (sym e))
    line_read Due·.Vertex line e = refl
    line_read Due·.Y line e = absurd (true≢false (sym e))
    line_read Due·.Bulge line e = refl

    pub scan-ended : may_end due ≡ true → BodyRead text s.vertices s.count s.count_line s.closed old out
    unfolding taken_all
    scan-ended e =
        let all : read sc.body (line_of due lines s.count_line []) ≡ done Due·.Count empty_body 0 0 (read_groups text) =
        rw e at end_read in
        let a = all_read (read_groups text) sc.body (line_of due lines s.count_line []) all in
        let h = sc.holds in
        let b = body_of a.gs in
        let vs = ap (λ (c : Body). c.vertices) a.body in
        record {
          gs = a.gs;
          read = a.is;
          n-is = h.n-is ∙ ap length vs ∙ many-kept b.vertices;
          count-is = h.count-is ∙ ap (λ (c : Body). c.declared) a.body;
          line-is = sym (line_read due s.count_line e) ∙ a.line-is;
          closed_is = h.closed_is ∙ ap (λ (c : Body). closed_by c.flags-are) a.body ∙ closed-kept b.flags-are;
          few = omega (arith, sc.few-lines, sc.few-vertices);
          holds =
              λ few.
              h.floats few ∙ ap (λ (ws : List Corner). sets old 0 (path_of ws)) vs ∙ ap (sets old 0) (path-kept b.vertices);
        }
