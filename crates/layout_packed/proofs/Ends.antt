-- The ends of a reading: a buffer is too small, the file breaks its form, or both paths are written.
use Prim.Native.Nat.{ℕ, ◌≤◌, ◌<◌}
use mathlib.Core.Path.{◌≡◌}
use mathlib.Core.Bool.{true, false}
use mathlib.Core.List.{List}
use borrow.Author.Tests.{lt-ltb, le-ltb}
use lib.ListN.{length, drop}
use lib.Ieee.{Float}
use Rattle.std.specs.Prelude.{Result, Ok, Err}
use Rattle.layouts.specs.Limits as limit
use Rattle.layout_packed.specs.Workings.Reader.{broken_at, vertices_from, reads_packed}
use Rattle.layout_packed.specs.Workings.Shown.{Filled, Fitting, Shaped}
use Rattle.layout_packed.specs.Read.{ReadPacked, refusal, roomless}
use Rattle.layout_packed.specs.Laws.Vertices.{vertices-spelt}
use Rattle.layout_packed.specs.declared.Fault.{Fault}
use Rattle.layout_packed.specs.declared.UnpackError.TheVariants.{Refused, NoRoom}
use Rattle.layouts.specs.declared.shape.Shape.{Shape}

module _ (bytes : List ℕ) (first second : List Float) where
  no_room : roomless first second ≡ true → ReadPacked bytes (Err NoRoom) first first second second
  no_room e = record { answer-is = rw e; first_holds = rw e; second_holds = rw e }

  pub first_short : length first < limit.room → ReadPacked bytes (Err NoRoom) first first second second
  first_short h = no_room (rw (lt-ltb _ _ h))

  module _ (one : limit.room ≤ length first) where
    pub second_short : length second < limit.room → ReadPacked bytes (Err NoRoom) first first second second
    second_short h = no_room (rw (le-ltb _ _ one, lt-ltb _ _ h))

    module _ (two : limit.room ≤ length second) where
      roomy : roomless first second ≡ false
      roomy = rw (le-ltb _ _ one, le-ltb _ _ two)

      pub form-broken : (s : Result Shape Fault) (f : Fault) → Shaped bytes s → s ≡ Err f
          → ReadPacked bytes (Err (Refused refusal f.offset)) first first second second
      form-broken s f shaped e =
          let is : reads_packed bytes ≡ broken_at f.offset = rw e at shaped in
          record { answer-is = rw (roomy, is); first_holds = rw (roomy, is); second_holds = rw (roomy, is) }

      pub both-written : (at : Shape) (first' second' : List Float) → Fitting bytes at
          → Filled (vertices_from at.n at.first (drop at.first bytes)) first first'
          → Filled (vertices_from at.m at.second (drop at.second bytes)) second second'
          → ReadPacked bytes (Ok (record { first = at.n; second = at.m })) first first' second second'
      both-written at first' second' fit wrote-first wrote-second =
          let f = vertices-spelt at.n at.first (drop at.first bytes) fit.first_read in
          let s = vertices-spelt at.m at.second (drop at.second bytes) fit.second-read in
          record {
            answer-is = rw (roomy, fit.is, f.count, s.count);
            first_holds = rw (roomy, fit.is) (wrote-first fit.first _ _ fit.first_read);
            second_holds = rw (roomy, fit.is) (wrote-second fit.second _ _ fit.second-read);
          }
