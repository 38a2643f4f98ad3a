-- A call's checks, one after the other, give the first fault of their list: what each step adds to the checks made so far.
use Rattle.checks.specs.Checked.{Checked}
use Rattle.std.specs.Prelude.{◌≡◌, List, [], ◌∷◌, ◌++◌}
use Rattle.std.proofs.Common.{sym, ap, ◌∙◌}
use Rattle.checks.specs.Fault.{later}
use Rattle.checks.specs.First.{first}
use Rattle.checks.specs.Laws.Later.{fine-right}
use Rattle.checks.specs.Laws.Chains.{first-append}

-- r is the first fault of the checks
pub record Found (checks : List Checked) (r : Checked) : Type 0 where
  pub is : r ≡ first checks

pub alone : {r c : Checked} → r ≡ c → Found (c ∷ []) r
alone {c = c} e = record { is = e ∙ sym (fine-right c) }

module _ {cs : List Checked} {f r : Checked} (found : Found cs f) where
  -- with further checks
  pub with-checks : (ds : List Checked) → r ≡ first (f ∷ ds) → Found (cs ++ ds) r
  with-checks ds e = record { is = e ∙ ap (λ (z : Checked). later z (first ds)) found.is ∙ sym (first-append cs ds) }

  pub with-check : {c : Checked} (d : Checked) → c ≡ d → r ≡ later f c → Found (cs ++ (d ∷ [])) r
  with-check {c} d is e = with-checks (d ∷ []) (e ∙ ap (later f) (is ∙ sym (fine-right d)))
