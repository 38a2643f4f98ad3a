-- The three ends of handing an answer over: there is no room, it is a refusal, or its four values are written.
use Prim.Native.Nat.{ℕ, ◌≤◌, ◌<◌}
use mathlib.Core.Path.{◌≡◌, ap, ◌∙◌, subst}
use mathlib.Core.Bool.{true, false}
use mathlib.Core.List.{List, [], ◌∷◌}
use borrow.Author.Tests.{lt-ltb, le-ltb}
use lib.ListN.{length}
use lib.Seq.{sets}
use lib.Ieee.{Float}
use Rattle.answers.specs.declared.padded.PaddedAnswer.{PaddedAnswer}
use Rattle.capi.specs.Handed.{places, no_room_code, Handed}

module _ (f : PaddedAnswer) (old : List Float) where
  pub no_room : length old < places → Handed f no_room_code old old
  no_room h = record { code_is = simp (lt-ltb _ _ h); holds = simp (lt-ltb _ _ h) }

  pub refused : places ≤ length old → f.refused ≡ true → Handed f f.number old old
  refused h e = record { code_is = simp (le-ltb _ _ h, e); holds = simp (le-ltb _ _ h, e) }

  pub written : places ≤ length old → f.refused ≡ false
      → Handed f f.number old (sets old 0 (f.a ∷ f.b ∷ f.c ∷ f.d ∷ []))
  written h e = record { code_is = simp (le-ltb _ _ h, e); holds = simp (le-ltb _ _ h, e) }

-- what a call answers, put into numbers by `numbers` and handed over
pub handed : {Answer : Type 0} (numbers : Answer → PaddedAnswer) (padded : PaddedAnswer) (answer called : Answer)
    (n : ℕ) (old now : List Float) → padded ≡ numbers answer → answer ≡ called → Handed padded n old now
    → Handed (numbers called) n old now
handed numbers padded answer called n old now code_is is =
    subst (λ (f : PaddedAnswer). Handed f n old now) (code_is ∙ ap numbers is)
