-- How a pair's answer with findings goes to a caller in C: a number is returned, four values go into the first slice and the four
-- findings' numbers into the second.
use Rattle.findings.specs.declared.reported.Reported.{Reported}
use Rattle.checks.specs.declared.fault.Fault.{Fault}
use Rattle.std.specs.Prelude.{ℕ, ◌≡◌, Bool, cond, ◌||◌, List, [], ◌∷◌, ltb, length, Float, Err, Ok, Result}
use Rattle.std.proofs.lemmas.List.Edits.{sets}
use Rattle.answers.specs.Padded.{of_pline_seg}
use Rattle.answers.specs.declared.padded.PaddedAnswer.{PaddedAnswer}
use Rattle.findings.specs.Finding.{numbers_of}
use Rattle.findings.specs.Report.{pair_answer}
use Rattle.capi.specs.Handed.{places, no_room_code}

-- how many findings are told
abbrev pub finding_places : ℕ
finding_places = 4

-- one of the slices has too few places
abbrev pub short : List Float → List ℕ → Bool
short old old_findings = ltb (length old) places || ltb (length old_findings) finding_places

-- class and points, as the pair call hands them over
abbrev pub numbers : Result Reported Fault → PaddedAnswer
numbers told = of_pline_seg (pair_answer told)

-- a refusal tells nothing
abbrev pub findings : Result Reported Fault → List ℕ
findings (Err fault) = []
findings (Ok r) = numbers_of r.findings

pub record HandedFindings (told : Result Reported Fault) (returned : ℕ) (old now : List Float) (old_findings now_findings : List ℕ)
    : Type 0 where
  pub code_is : returned ≡ cond (short old old_findings) no_room_code (numbers told).number
  pub holds :
      now
      ≡ cond (short old old_findings || (numbers told).refused) old
      (sets old 0 ((numbers told).a ∷ (numbers told).b ∷ (numbers told).c ∷ (numbers told).d ∷ []))
  pub tells : now_findings ≡ cond (short old old_findings) old_findings (sets old_findings 0 (findings told))
