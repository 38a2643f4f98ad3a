-- The ends of a move: there is too little room, the input breaks its form, or all parts are put.
use Rattle.std.specs.Prelude.{ℕ, ◌+◌, ◌≤◌, ◌<◌, ◌≡◌, List, length, drop, Option, None, Result, Ok, Err}
use Rattle.std.proofs.Common.{ap, arith, lt-ltb, le-ltb}
use Rattle.layouts.specs.Layout.{Vertex}
use Rattle.layouts.specs.declared.shape.Shape.{Shape}
use Rattle.put_text.specs.Workings.Put.{Put, PutIn}
use Rattle.put_text.specs.Laws.Put.{put-join}
use Rattle.layout_text.specs.Form.{vertices_text, counts_text}
use Rattle.layout_text.specs.Form as text_form
use Rattle.layout_text.specs.Sizes as text_sizes
use Rattle.layout_text.specs.Laws.Put.{text-put}
use Rattle.layout_text.specs.Laws.Sound as text_law
use Rattle.layout_text.specs.Workings.Reader as text_read
use Rattle.layout_text.specs.Workings.Shown as text_shown
use Rattle.layout_packed.specs.Groups.{groups_of}
use Rattle.layout_packed.specs.Packed.{vertices_numbers, joined, packed_of}
use Rattle.layout_packed.specs.Limits as packed_sizes
use Rattle.layout_packed.specs.Read as packed_reader
use Rattle.layout_packed.specs.Laws.Vertices as packed_law
use Rattle.layout_packed.specs.Workings.Reader as packed_read
use Rattle.layout_packed.specs.Workings.Shown as packed_shown
use Rattle.layout_packed.specs.declared.Fault.{Fault}
use Rattle.layout_moves.specs.Moves.{Given, bytes, refused, refused_at, pack, unpack, Moves, PackLayout, UnpackLayout}
use Rattle.layout_moves.specs.Workings.Carried.{Carried, from_text, from_packed, vertices_bytes}
use Rattle.layout_moves.specs.declared.MoveError.TheVariants.{Refused, RefusedAt, NoRoom}

-- ---- for either direction

module _ (room : ℕ) (given : Given) (old : List ℕ) where
  pub no_room : length old < room → Moves room given (Err NoRoom) old old
  no_room h = record { answer-is = rw (lt-ltb _ _ h); holds = rw (lt-ltb _ _ h) }

  module _ (enough : room ≤ length old) where
    pub is-refused : {n : ℕ} → given ≡ refused n → Moves room given (Err (Refused n)) old old
    is-refused e = record { answer-is = rw (le-ltb _ _ enough, e); holds = rw (le-ltb _ _ enough, e) }

    pub is-refused-at : {n k : ℕ} → given ≡ refused_at n k → Moves room given (Err (RefusedAt n k)) old old
    is-refused-at e = record { answer-is = rw (le-ltb _ _ enough, e); holds = rw (le-ltb _ _ enough, e) }

    pub is-moved : {b now : List ℕ} {next : ℕ} → given ≡ bytes b → Put b old 0 now next
        → Moves room given (Ok next) old now
    is-moved {b} {now} {next} e p =
        let long : next ≡ length b = omega (arith, p.after) in
        record { answer-is = rw (le-ltb _ _ enough, e, long); holds = rw (le-ltb _ _ enough, e) p.holds }

-- ---- from a text

module _ (text old : List ℕ) (enough : packed_sizes.longest ≤ length old) where
  pub text-broken : {s : Option Shape} → text_shown.Shaped text s → s ≡ None
      → PackLayout text (Err (Refused text_form.refusal)) old old
  unfolding pack
  text-broken shaped e =
      let is : text_read.reads text ≡ text_read.broken = rw e at shaped in
      is-refused _ _ old enough (rw is)

packed-put : (first second : List Vertex) {n m : ℕ} → length first ≡ n → length second ≡ m
    → {o o1 o2 o3 o4 : List ℕ} {p1 p2 p3 p4 : ℕ} → Put (groups_of n) o 0 o1 p1 → Put (groups_of m) o1 p1 o2 p2
    → Put (vertices_bytes first) o2 p2 o3 p3 → Put (vertices_bytes second) o3 p3 o4 p4
    → Put (packed_of (record { first = first; second = second })) o 0 o4 p4
unfolding packed_of joined
packed-put first second en em counts counts2 one two =
    rw (en, em, packed_law.joined-append (vertices_numbers first) (vertices_numbers second))
    (put-join counts (put-join counts2 (put-join one two)))

module _ {text : List ℕ} {s : Shape} (fit : text_shown.Fitting text s) where
  -- what is put of the first path is no longer than its share
  pub packed-first : {most : ℕ} {old now : List ℕ} {at next : ℕ}
      → Carried vertices_bytes most (from_text (text_read.vertices_of s.n (drop s.first text))) old at now next → next ≤ at + most
  packed-first put = (put fit.first (ap from_text fit.first_read)).short

  pub text-packed : {o o1 o2 o3 o4 : List ℕ} {p1 p2 p3 p4 k1 k2 : ℕ} → packed_sizes.longest ≤ length o
      → PutIn packed_sizes.count_bytes (groups_of s.n) o 0 o1 p1 → PutIn packed_sizes.count_bytes (groups_of s.m) o1 p1 o2 p2
      → Carried vertices_bytes k1 (from_text (text_read.vertices_of s.n (drop s.first text))) o2 p2 o3 p3
      → Carried vertices_bytes k2 (from_text (text_read.vertices_of s.m (drop s.second text))) o3 p3 o4 p4
      → PackLayout text (Ok p4) o o4
  unfolding pack
  text-packed {o} enough counts counts2 one two =
      let first = text_law.vertices-spelt s.n (drop s.first text) fit.first_read in
      let second = text_law.vertices-spelt s.m (drop s.second text) fit.second-read in
      is-moved _ _ o enough (rw fit.is)
      (packed-put fit.first fit.second first.count second.count counts.is-put counts2.is-put
      (one fit.first (ap from_text fit.first_read)).is-put
      (two fit.second (ap from_text fit.second-read)).is-put)

-- ---- from a packed file

module _ (file old : List ℕ) (enough : text_sizes.longest ≤ length old) where
  pub file-broken : {s : Result Shape Fault} {f : Fault} → packed_shown.Shaped file s → s ≡ Err f
      → UnpackLayout file (Err (RefusedAt packed_reader.refusal f.offset)) old old
  unfolding unpack
  file-broken {s} {f} shaped e =
      let is : packed_read.reads_packed file ≡ packed_read.broken_at f.offset = rw e at shaped in
      is-refused-at _ _ old enough (rw is)

module _ {file : List ℕ} {s : Shape} (fit : packed_shown.Fitting file s) where
  -- what is put of the first path is no longer than its share
  pub written-first : {most : ℕ} {old now : List ℕ} {at next : ℕ}
      → Carried vertices_text most (from_packed (packed_read.vertices_from s.n s.first (drop s.first file))) old at now next → next ≤ at + most
  written-first put = (put fit.first (ap from_packed fit.first_read)).short

  pub file-unpacked : {o o1 o2 o3 : List ℕ} {p1 p2 p3 k1 k2 : ℕ} → text_sizes.longest ≤ length o
      → PutIn text_sizes.counts_line (counts_text s.n s.m) o 0 o1 p1
      → Carried vertices_text k1 (from_packed (packed_read.vertices_from s.n s.first (drop s.first file))) o1 p1 o2 p2
      → Carried vertices_text k2 (from_packed (packed_read.vertices_from s.m s.second (drop s.second file))) o2 p2 o3 p3
      → UnpackLayout file (Ok p3) o o3
  unfolding unpack
  file-unpacked {o} enough counts one two =
      let first = packed_law.vertices-spelt s.n s.first (drop s.first file) fit.first_read in
      let second = packed_law.vertices-spelt s.m s.second (drop s.second file) fit.second-read in
      is-moved _ _ o enough (rw fit.is)
      (text-put s.n s.m fit.first fit.second first.count second.count counts.is-put
      (one fit.first (ap from_packed fit.first_read)).is-put
      (two fit.second (ap from_packed fit.second-read)).is-put)
