-- What is told of a computed point and an arc, with its number: the five findings of the sweep's test, "end point" and "not
-- tested" (request 7).
use Rattle.std.specs.Prelude.{ℕ, Bool, true, false, List, [], ◌∷◌}
use Rattle.arcs.specs.declared.sweep_finding.SweepFinding.{SweepFinding}
use Rattle.arcs.specs.declared.sweep_finding.SweepFinding.TheVariants as sweep
use Rattle.findings.specs.declared.finding.Computed.{Computed}
use Rattle.findings.specs.declared.finding.Finding.{Finding}
use Rattle.findings.specs.declared.finding.Finding.TheVariants.{
  Outside,
  NearCenter,
  Inside,
  NearStart,
  NearEnd,
  EndPoint,
  NotTested,
}
use Rattle.findings.specs.declared.finding.Findings.{Findings}

abbrev pub of_sweep : SweepFinding → Finding
of_sweep sweep.Outside = Outside
of_sweep sweep.NearCenter = NearCenter
of_sweep sweep.Inside = Inside
of_sweep sweep.NearStart = NearStart
of_sweep sweep.NearEnd = NearEnd

abbrev pub number : Finding → ℕ
number Outside = 0
number NearCenter = 1
number Inside = 2
number NearStart = 3
number NearEnd = 4
number EndPoint = 5
number NotTested = 6

-- 1 to 4: a rule of the sweep said yes
abbrev pub counts : Finding → Bool
counts Outside = false
counts NearCenter = true
counts Inside = true
counts NearStart = true
counts NearEnd = true
counts EndPoint = false
counts NotTested = false

-- the report on no computed point, on one, on two
abbrev pub findings_of : List Computed → Findings
findings_of [] =
    record { first_v = NotTested; first_u = NotTested; second_v = NotTested; second_u = NotTested }
findings_of (a ∷ []) =
    record { first_v = a.v; first_u = a.u; second_v = NotTested; second_u = NotTested }
findings_of (a ∷ b ∷ rest) =
    record { first_v = a.v; first_u = a.u; second_v = b.v; second_u = b.u }

-- the report in numbers: first point for v, for u, second point for v, for u
abbrev pub numbers_of : Findings → List ℕ
numbers_of f = number f.first_v ∷ number f.first_u ∷ number f.second_v ∷ number f.second_u ∷ []
