-- A fault: the scope's number of its refusal, and its place. What a check answers, and the first fault of two checks.
use Rattle.checks.specs.Checked.{Checked}
use Rattle.std.specs.Prelude.{ℕ, Bool, cond, Err, Ok}
use Rattle.checks.specs.declared.fault.Item.{Item}
use Rattle.checks.specs.declared.fault.Place.{Place}
use Rattle.checks.specs.declared.fault.Fault.{Fault}

-- a place, and a fault with the number n at the place p
abbrev pub at : ℕ → ℕ → Item → Place
at owner index item = record { owner = owner; index = index; item = item }

abbrev pub bad : ℕ → Place → Checked
bad n p = Err (record { number = n; place = p })

-- a fault whose place has no owner and no index
abbrev pub whole : ℕ → Item → Fault
whole n item = record { number = n; place = at 0 0 item }

-- the number of the refusal that a check gives, or 0 if it is fine
abbrev pub refusal : Checked → ℕ
refusal (Ok _) = 0
refusal (Err f) = f.number

-- the fault with the number n at p if the test says yes
unfoldable pub refuse : Bool → ℕ → Place → Checked
refuse test n p = cond test (bad n p) (Ok tt)

-- the first fault of two checks
unfoldable pub later : Checked → Checked → Checked
later (Ok _) g = g
later (Err f) g = Err f
