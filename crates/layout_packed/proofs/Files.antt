-- A packed file, part by part: a part that is missing is the fault that is told; if all are there and nothing more, the file is a
-- layout's.
use Prim.Native.Nat.{ℕ, ◌≤◌, ◌<◌}
use mathlib.Core.Path.{◌≡◌, ap, ◌∙◌}
use mathlib.Core.List.{List}
use lib.ListN.{length, drop, drop_of_length-le}
use lib.Seq.{drop-cons}
use Rattle.std.specs.Prelude.{Option, Some, None, Result, Ok, Err}
use Rattle.layouts.specs.Limits as limit
use Rattle.layout_packed.specs.Workings.Reader.{fault, got, passed, number_from, vertices_from, layout_from}
use Rattle.layout_packed.specs.Workings.Reader.{broken_at, reads_packed}
use Rattle.layout_packed.specs.Workings.Shown.{shown_number, shown_place, Fitting}
use Rattle.layout_packed.specs.Laws.Number.{number-within}
use Rattle.layout_packed.specs.Laws.Said.{no_number, a-number, Over, no_place, a-place}
use Rattle.layout_packed.specs.declared.number.Number.{Number}
use Rattle.layout_packed.specs.declared.Fault.{Fault}

-- ---- a path's vertices

module _ (bytes : List ℕ) (n at : ℕ) {p : Result ℕ Fault}
    (is : shown_place bytes p ≡ passed (vertices_from n at (drop at bytes))) where
  no-path : {f : Fault} → p ≡ Err f → vertices_from n at (drop at bytes) ≡ fault f.offset
  no-path e = no_place bytes (vertices_from n at (drop at bytes)) is e

  a-path : {next : ℕ} → p ≡ Ok next → Over (vertices_from n at (drop at bytes)) next (drop next bytes)
  a-path e = a-place bytes (vertices_from n at (drop at bytes)) is e

-- ---- a file, by what each call says of its parts

module _ (bytes : List ℕ) where
  missing : {k : ℕ} → layout_from bytes ≡ fault k → reads_packed bytes ≡ broken_at k
  unfolding reads_packed
  missing e = rw e

  module _ (a : Option Number) (a-is : shown_number bytes 0 a ≡ number_from limit.vertices 0 bytes) where
    pub no-n : a ≡ None → reads_packed bytes ≡ broken_at 0
    unfolding layout_from
    no-n e = missing (simp (no_number bytes 0 a-is e))

    module _ (n : Number) (n-whole : a ≡ Some n) (b : Option Number)
        (b-is : shown_number bytes n.next b ≡ number_from limit.vertices n.next (drop n.next bytes)) where
      pub no-m : b ≡ None → reads_packed bytes ≡ broken_at n.next
      unfolding layout_from
      no-m e = missing (simp (a-number bytes 0 a-is n-whole, no_number bytes n.next b-is e))

      module _ (m : Number) (m-whole : b ≡ Some m) (p : Result ℕ Fault)
          (p-is : shown_place bytes p ≡ passed (vertices_from n.value m.next (drop m.next bytes))) where
        pub no-first : (f : Fault) → p ≡ Err f → reads_packed bytes ≡ broken_at f.offset
        unfolding layout_from
        no-first f e =
            missing (simp (a-number bytes 0 a-is n-whole, a-number bytes n.next b-is m-whole, no-path bytes n.value m.next p-is e))

        module _ (second : ℕ) (p-at : p ≡ Ok second) (q : Result ℕ Fault)
            (q-is : shown_place bytes q ≡ passed (vertices_from m.value second (drop second bytes))) where
          pub no_second : (f : Fault) → q ≡ Err f → reads_packed bytes ≡ broken_at f.offset
          unfolding layout_from
          no_second f e =
              let one = a-path bytes n.value m.next p-is p-at in
              missing
              (simp
              (a-number bytes 0 a-is n-whole, a-number bytes n.next b-is m-whole, one.is, no-path bytes m.value second q-is e))

          module _ (end : ℕ) (q-at : q ≡ Ok end) where
            all_there : layout_from bytes
                ≡ got
                (record { first = (a-path bytes n.value m.next p-is p-at).a; second = (a-path bytes m.value second q-is q-at).a })
                end (drop end bytes)
            unfolding layout_from
            all_there =
                let one = a-path bytes n.value m.next p-is p-at in
                let two = a-path bytes m.value second q-is q-at in
                simp (a-number bytes 0 a-is n-whole, a-number bytes n.next b-is m-whole, one.is, two.is)

            pub bytes_left : end < length bytes → reads_packed bytes ≡ broken_at end
            unfolding reads_packed
            bytes_left h = rw (all_there, drop-cons bytes end 0 h)

            pub bytes-over : length bytes ≤ end
                → Fitting bytes (record { n = n.value; m = m.value; first = m.next; second = second })
            unfolding reads_packed
            bytes-over h =
                let one = a-path bytes n.value m.next p-is p-at in
                let two = a-path bytes m.value second q-is q-at in
                let none = drop_of_length-le bytes h in
                record {
                  first = one.a;
                  second = two.a;
                  end = end;
                  is = rw (all_there, none);
                  first_read = one.is;
                  second-read = two.is ∙ ap (got two.a end) none;
                  n_within = number-within limit.vertices 0 bytes (a-number bytes 0 a-is n-whole);
                  m-within = number-within limit.vertices n.next (drop n.next bytes) (a-number bytes n.next b-is m-whole);
                }
