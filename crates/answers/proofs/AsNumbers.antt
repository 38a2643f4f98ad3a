-- An answer as plain numbers: the refusal, or the case, that it is.
use mathlib.Core.Path.{◌≡◌}
use Rattle.answers.specs.declared.padded.PaddedAnswer.{PaddedAnswer}

module _ {Answer : Type 0} (numbers : Answer → PaddedAnswer) where
  pub as-refused : (answer refused : Answer) (padded : PaddedAnswer) → answer ≡ refused → padded ≡ numbers refused
      → padded ≡ numbers answer
  as-refused answer refused padded e same = rw e same

  pub as-met : {Case : Type 0} (met : Case → Answer) (answer : Answer) (found case : Case) (padded : PaddedAnswer)
      → answer ≡ met found → found ≡ case → padded ≡ numbers (met case) → padded ≡ numbers answer
  as-met met answer found case padded e is same = rw (e, is) same
