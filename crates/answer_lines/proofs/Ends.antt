-- One turn of the loop that puts rows, and the ends of the writer.
use Prim.Native.Nat.{ℕ, suc, ◌+◌, ◌-◌, ◌≤◌, ◌<◌}
use mathlib.Core.Path.{◌≡◌}
use mathlib.Core.Bool.{Bool, true, false}
use mathlib.Core.List.{List}
use native.Mathlib.Omega.{arith}
use lib.ListN.{length}
use lib.Ieee.{Float}
use Rattle.std.specs.Prelude.{Ok, Err}
use Rattle.answer_lines.specs.Lines.{row_at, rows_text}
use Rattle.put_text.specs.Workings.Put.{Put}
use Rattle.answer_lines.specs.Written.{Lines}
use Rattle.put_text.specs.Laws.Put.{put-none, put-join}
use Rattle.answer_lines.specs.declared.WriteError.TheVariants.{NoRows, NoRoom}

-- ---- rows

module _ (index : List ℕ) (points : List Float) (rows k : ℕ) where
  pub rows_end : rows ≤ k → (out : List ℕ) (at : ℕ) → Put (rows_text index points (rows - k) k) out at out at
  unfolding rows_text
  rows_end h out at =
      let none : rows - k ≡ 0 = omega arith in
      rw none (put-none out at)

  pub rows_more : k < rows → {out mid now : List ℕ} {at to next : ℕ} → Put (row_at index points k) out at mid to
      → Put (rows_text index points (rows - (k + 1)) (k + 1)) mid to now next
      → Put (rows_text index points (rows - k) k) out at now next
  unfolding rows_text
  rows_more h p q =
      let one : rows - k ≡ suc (rows - (k + 1)) = omega arith in
      rw one (put-join p q)

-- ---- the ends

module _ (rowless roomless : Bool) (bytes old : List ℕ) where
  pub no_rows : rowless ≡ true → Lines rowless roomless bytes (Err NoRows) old old
  no_rows e = record { answer-is = rw e; holds = rw e }

  module _ (rowed : rowless ≡ false) where
    pub no_room : roomless ≡ true → Lines rowless roomless bytes (Err NoRoom) old old
    no_room e = record { answer-is = rw (rowed, e); holds = rw (rowed, e) }

    pub written : roomless ≡ false → (now : List ℕ) (next : ℕ) → Put bytes old 0 now next
        → Lines rowless roomless bytes (Ok next) old now
    written e now next p =
        let long : next ≡ length bytes = omega (arith, p.after) in
        record { answer-is = rw (rowed, e, long); holds = rw (rowed, e) p.holds }
