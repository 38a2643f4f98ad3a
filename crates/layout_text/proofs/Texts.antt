-- A text, part by part: if a part is missing the text breaks its form; if all are there and nothing more, it is the text of a
-- layout.
use Prim.Native.Nat.{ℕ, ◌≤◌, ◌<◌}
use mathlib.Core.Path.{◌≡◌, refl, sym, ap, ◌∙◌, subst}
use mathlib.Core.Bool.{Bool}
use mathlib.Core.List.{List}
use native.Mathlib.Omega.{arith}
use borrow.Author.Tests.{le-ltb, lt-ltb}
use lib.ListN.{length, drop, drop_of_length-le}
use lib.Dec.{eqb}
use lib.Seq.{drop-cons}
use lib.IntN.{ℤ, pos}
use Rattle.std.specs.Prelude.{Option, Some, None}
use Rattle.layouts.specs.Limits as limit
use Rattle.layouts.specs.Layout.{Vertex, whole}
use Rattle.layouts.specs.Laws.Whole.{size-whole}
use Rattle.layout_text.specs.Form.{bytes}
use Rattle.layout_text.specs.Workings.Reader.{Got, nothing, got, stuck, over, passed, other, space, newline, count_of}
use Rattle.layout_text.specs.Workings.Reader.{vertices_of, lines_of, broken, reads}
use Rattle.layout_text.specs.Workings.Shown.{shown_number, shown_place, Fitting}
use Rattle.layout_text.specs.Laws.Sound.{count-spelt}
use Rattle.layout_text.specs.Laws.Said.{a-number}
use Rattle.layout_text.specs.declared.number.Number.{Number}
use Rattle.layouts.specs.declared.shape.Shape.{Shape}

-- ---- a count has no minus

pub record Count (most end n : ℕ) (t rest : List ℕ) : Type 0 where
  pub is : count_of most end t ≡ got (pos n) rest
  pub within : n ≤ most

count-is : (most end : ℕ) → end < other → (t : List ℕ) (negative : Bool) (n : ℕ) (rest : List ℕ)
    → count_of most end t ≡ got (whole negative n) rest → Count most end n t rest
count-is most end known t negative n rest e =
    let s = count-spelt most end known t e in
    let sized = size-whole negative n in
    let plain : whole negative n ≡ pos n = s.2 ∙ ap pos sized in
    record { is = e ∙ ap (λ (z : ℤ). got z rest) plain; within = subst (λ (k : ℕ). k ≤ most) sized s.1 }

pub counted : (text : List ℕ) {most end : ℕ} {t : List ℕ} {r : Option Number} → end < other
    → shown_number text r ≡ count_of most end t → {n : Number} → r ≡ Some n → Count most end n.magnitude t (drop n.next text)
counted text {most} {end} {t} known is {n} e =
    count-is most end known t (eqb n.minuses 1) n.magnitude (drop n.next text) (a-number text is e)

-- ---- places

stuck-nothing : {A : Type 0} (g : Got A) → passed g ≡ stuck → g ≡ nothing
stuck-nothing nothing e = refl
stuck-nothing (got a rest) e = let z : ◌≡◌ {A = ℕ} 0 1 = cc in absurd (omega arith)

pub record Over {A : Type 0} (g : Got A) (rest : List ℕ) : Type 0 where
  pub a : A
  pub is : g ≡ got a rest

over-got : {A : Type 0} (g : Got A) {rest : List ℕ} → passed g ≡ over rest → Over g rest
over-got nothing e = let z : ◌≡◌ {A = ℕ} 0 1 = cc in absurd (omega arith)
over-got (got a r) {rest} e = let same : r ≡ rest = cc in record { a = a; is = rw same }

module _ (text : List ℕ) {g : Got (List Vertex)} {r : Option ℕ} (is : shown_place text r ≡ passed g) where
  pub no_place : r ≡ None → g ≡ nothing
  unfolding shown_place
  no_place e = stuck-nothing g (sym is ∙ ap (shown_place text) e)

  pub a-place : {next : ℕ} → r ≡ Some next → Over g (drop next text)
  unfolding shown_place
  a-place e = over-got g (sym is ∙ ap (shown_place text) e)

-- ---- a text

pub too_long : (text : List ℕ) → bytes < length text → reads text ≡ broken
unfolding reads
too_long text h = rw (lt-ltb _ _ h)

module _ (text : List ℕ) where
  -- what is read up to a place: both counts; then both paths
  pub record Counts (n m at : ℕ) : Type 0 where
    pub after-n : ℕ
    pub short : length text ≤ bytes
    pub n-is : Count limit.vertices space n text (drop after-n text)
    pub m-is : Count limit.vertices newline m (drop after-n text) (drop at text)

  pub record Paths (n m first second at : ℕ) : Type 0 where
    pub counts : Counts n m first
    pub one : Over (vertices_of n (drop first text)) (drop second text)
    pub two : Over (vertices_of m (drop second text)) (drop at text)

  -- both counts, by what the calls said of them
  pub counts-of : length text ≤ bytes → {r s : Option Number} {n m : Number}
      → shown_number text r ≡ count_of limit.vertices space text → r ≡ Some n
      → shown_number text s ≡ count_of limit.vertices newline (drop n.next text) → s ≡ Some m
      → Counts n.magnitude m.magnitude m.next
  counts-of h {n = n} n-is n-read m-is m-read =
      record {
        after-n = n.next;
        short = h;
        n-is = counted text (omega arith) n-is n-read;
        m-is = counted text (omega arith) m-is m-read;
      }

  module _ (short : length text ≤ bytes) where
    lines-missing : lines_of text ≡ nothing → reads text ≡ broken
    unfolding reads
    lines-missing e = rw (le-ltb _ _ short, e)

    pub no-count : count_of limit.vertices space text ≡ nothing → reads text ≡ broken
    unfolding lines_of
    no-count e = lines-missing (rw e)

    pub no-count-2 : {n : ℕ} {t : List ℕ} → Count limit.vertices space n text t → count_of limit.vertices newline t ≡ nothing
        → reads text ≡ broken
    unfolding lines_of
    no-count-2 c e = lines-missing (rw (c.is, e))

  module _ {n m first : ℕ} (c : Counts n m first) where
    pub no-first : vertices_of n (drop first text) ≡ nothing → reads text ≡ broken
    unfolding lines_of
    no-first e = lines-missing c.short (rw (c.n-is.is, c.m-is.is, e))

    pub no_second : {t : List ℕ} → Over (vertices_of n (drop first text)) t → vertices_of m t ≡ nothing → reads text ≡ broken
    unfolding lines_of
    no_second one e = lines-missing c.short (rw (c.n-is.is, c.m-is.is, one.is, e))

  module _ {shape : Shape} {at : ℕ} (p : Paths shape.n shape.m shape.first shape.second at) where
    lines-there : lines_of text ≡ got (record { first = p.one.a; second = p.two.a }) (drop at text)
    unfolding lines_of
    lines-there = rw (p.counts.n-is.is, p.counts.m-is.is, p.one.is, p.two.is)

    pub text-left : at < length text → reads text ≡ broken
    unfolding reads
    text-left h = rw (le-ltb _ _ p.counts.short, lines-there, drop-cons text at 0 h)

    pub text-over : length text ≤ at → Fitting text shape
    unfolding reads
    text-over h =
        let none = drop_of_length-le text h in
        record {
          first = p.one.a;
          second = p.two.a;
          is = rw (le-ltb _ _ p.counts.short, lines-there, none);
          first_read = p.one.is;
          second-read = p.two.is ∙ ap (got p.two.a) none;
          n_within = p.counts.n-is.within;
          m-within = p.counts.m-is.within;
        }
