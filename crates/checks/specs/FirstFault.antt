-- What `first` answers: a fault exactly if it is the first of the list, and fine exactly if every check is fine.
use Rattle.checks.specs.Checked.{Checked}
use Rattle.std.specs.Prelude.{◌≡◌, refl, ◌↔◌, Bool, true, false, List, [], ◌∷◌, Err, Ok}
use Rattle.std.proofs.Common.{sym, ap, true≢false}
use Rattle.checks.specs.declared.fault.Fault.{Fault}
use Rattle.checks.specs.Fault.{later}
use Rattle.checks.specs.First.{first}

-- f is the first fault: f is at the head of the list, or the head is fine and f is the first fault of the rest
pub data FirstFault (f : Fault) : List Checked → Type 0 where
  here : {cs : List Checked} → FirstFault f (Err f ∷ cs)
  after : {cs : List Checked} → FirstFault f cs → FirstFault f ((Ok tt) ∷ cs)

pub data AllFine : List Checked → Type 0 where
  none : AllFine []
  one : {cs : List Checked} → AllFine cs → AllFine ((Ok tt) ∷ cs)

is-fine : Checked → Bool
is-fine (Ok _) = true
is-fine (Err f) = false

-- `first` answers a fault if and only if it is the first, and it is fine if and only if every check is fine
pub first-bad : (cs : List Checked) (f : Fault) → (first cs ≡ Err f) ↔ FirstFault f cs
unfolding later is-fine
first-bad cs f = (to cs, from)
  where
    to : (cs : List Checked) → first cs ≡ Err f → FirstFault f cs
    to [] e = absurd (true≢false (ap is-fine e))
    to ((Ok _) ∷ cs) e = after (to cs e)
    to (Err g ∷ cs) e = rw e here

    from : {cs : List Checked} → FirstFault f cs → first cs ≡ Err f
    from here = refl
    from (after h) = from h

pub first_fine : (cs : List Checked) → (first cs ≡ Ok tt) ↔ AllFine cs
unfolding later is-fine
first_fine cs = (to cs, from)
  where
    to : (cs : List Checked) → first cs ≡ Ok tt → AllFine cs
    to [] e = none
    to ((Ok _) ∷ cs) e = one (to cs e)
    to (Err g ∷ cs) e = absurd (true≢false (ap is-fine (sym e)))

    from : {cs : List Checked} → AllFine cs → first cs ≡ Ok tt
    from none = refl
    from (one h) = from h
