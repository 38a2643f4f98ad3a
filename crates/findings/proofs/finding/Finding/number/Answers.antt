-- `number` meets its contract: each finding's number is the definition's.
use Rattle.std.specs.Prelude.{◌≡◌, refl}
use denote.Enum.Declared.{tag_of}
use Rattle.findings.specs.contracts.finding.Finding.{the_type}
use Rattle.findings.specs.declared.finding.Finding.{Finding}
use Rattle.findings.specs.declared.finding.Finding.TheVariants.{Outside, NearCenter, Inside, NearStart, NearEnd, EndPoint, NotTested}
use Rattle.findings.specs.Finding as finding
use Rattle.findings.proofs.finding.Finding.number.Goals as goal

each : (f : Finding) → tag_of the_type f ≡ finding.number f
each Outside = refl
each NearCenter = refl
each Inside = refl
each NearStart = refl
each NearEnd = refl
each EndPoint = refl
each NotTested = refl

pub returns : goal.returns
returns c = each c.args.self
