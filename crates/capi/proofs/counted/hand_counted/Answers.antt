-- `hand_counted` meets its contract, case by case.
use Rattle.capi.proofs.counted.hand_counted.Goals as goal

pub returns-in-NoRoom : goal.returns-in-NoRoom
returns-in-NoRoom c =
    record { value = simp (c.in-Err.is, c.in-NoRoom.is); counts_after = simp (c.in-Err.is, c.in-NoRoom.is) }

pub returns-in-Refused : goal.returns-in-Refused
returns-in-Refused c =
    record {
      value = simp (c.in-Err.is, c.in-Refused.is, c.word.ensures);
      counts_after = simp (c.in-Err.is, c.in-Refused.is);
    }

pub returns-in-Ok : goal.returns-in-Ok
returns-in-Ok c =
    record { value = simp c.in-Ok.is c.hand_counts.ensures.value; counts_after = simp c.in-Ok.is c.hand_counts.ensures.counts_after }
