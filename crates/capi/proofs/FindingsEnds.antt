-- The ends of handing an answer with findings over: a slice has no room, it is a refusal, or values and findings are written.
use Rattle.std.specs.Prelude.{Err, Ok, Result}
use Prim.Native.Nat.{ℕ, ◌<◌, ◌≤◌}
use mathlib.Core.Path.{◌≡◌, refl, sym, ap, ◌∙◌}
use mathlib.Core.Bool.{false}
use mathlib.Core.List.{List, [], ◌∷◌}
use borrow.Author.Tests.{lt-ltb, le-ltb}
use lib.Ieee.{Float}
use lib.ListN.{length}
use lib.Seq.{sets}
use Rattle.checks.specs.Word.{word}
use Rattle.checks.specs.declared.fault.Fault.{Fault}
use Rattle.answers.specs.Padded.{of_pline_seg}
use Rattle.answers.specs.declared.padded.PaddedAnswer.{PaddedAnswer}
use Rattle.findings.specs.Finding.{numbers_of}
use Rattle.findings.specs.declared.reported.Reported.{Reported}
use Rattle.capi.specs.Handed.{Handed, places, no_room_code, code, written}
use Rattle.capi.specs.HandedFindings.{HandedFindings, finding_places}

module _ (told : Result Reported Fault) (old : List Float) (old_findings : List ℕ) where
  pub no_room : length old < places → HandedFindings told no_room_code old old old_findings old_findings
  no_room h = let e = lt-ltb _ _ h in record { code_is = simp e; holds = simp e; tells = simp e }

  pub no-room-to-tell : places ≤ length old → length old_findings < finding_places
      → HandedFindings told no_room_code old old old_findings old_findings
  no-room-to-tell g h =
      let d = le-ltb _ _ g in let e = lt-ltb _ _ h in record { code_is = simp (d, e); holds = simp (d, e); tells = simp (d, e) }

  pub refused : places ≤ length old → finding_places ≤ length old_findings → (result : Result Reported Fault) (fault : Fault) (n : ℕ)
      → result ≡ told → result ≡ Err fault → n ≡ word fault → HandedFindings told n old old old_findings old_findings
  unfolding of_pline_seg word
  refused g h result fault n is e code_is =
      let d = le-ltb (length old) places g in
      let k = le-ltb (length old_findings) finding_places h in
      let t = sym is ∙ e in
      record { code_is = simp (d, k, t) code_is; holds = simp (d, k, t); tells = simp (d, k, t) }

  -- a case, handed over by the pair call's rules
  values : PaddedAnswer → List Float
  values p = sets old 0 (p.a ∷ p.b ∷ p.c ∷ p.d ∷ [])

  code_of : (padded : PaddedAnswer) (n : ℕ) (now : List Float) → places ≤ length old → Handed padded n old now
      → n ≡ padded.number
  code_of padded n now g handed =
      let room : code padded old ≡ padded.number = simp (le-ltb (length old) places g) in
      handed.code_is ∙ room

  values_of : (padded : PaddedAnswer) (n : ℕ) (now : List Float) → places ≤ length old → padded.refused ≡ false
      → Handed padded n old now → now ≡ values padded
  unfolding values
  values_of padded n now g e handed =
      let room : written padded old ≡ values padded = simp (le-ltb (length old) places g, e) in
      handed.holds ∙ room

  pub met : places ≤ length old → finding_places ≤ length old_findings → (result : Result Reported Fault) (r : Reported)
      (padded : PaddedAnswer) (n : ℕ) (now : List Float) (now_findings : List ℕ) → result ≡ told → result ≡ Ok r
      → padded ≡ of_pline_seg (Ok r.answer) → Handed padded n old now
      → now_findings ≡ sets old_findings 0 (numbers_of r.findings) → HandedFindings told n old now old_findings now_findings
  unfolding of_pline_seg values
  met g h result r padded n now now_findings is e numbers handed tells =
      let d = le-ltb (length old) places g in
      let k = le-ltb (length old_findings) finding_places h in
      let t = sym is ∙ e in
      record {
        code_is = simp (d, k, t) (code_of padded n now g handed ∙ ap (λ (p : PaddedAnswer). p.number) numbers);
        holds =
            simp (d, k, t) (values_of padded n now g (ap (λ (p : PaddedAnswer). p.refused) numbers) handed ∙ ap values numbers);
        tells = simp (d, k, t) tells;
      }
