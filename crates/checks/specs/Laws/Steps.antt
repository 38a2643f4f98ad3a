-- A chain of checks that ends at its first fault: what each step shows of the first fault of the whole list.
use Rattle.std.specs.Prelude.{◌≡◌, refl, List, [], ◌∷◌, Result, Ok, Err, IsErrAnd}
use Rattle.std.specs.Result.{IsErr}
use Rattle.std.proofs.Common.{sym, ap, ◌∙◌}
use Rattle.std.proofs.lemmas.Result.{err_from_is_err_and}
use Rattle.checks.specs.declared.fault.Fault.{Fault}
use Rattle.checks.specs.Checked.{Checked}
use Rattle.checks.specs.Fault.{later}
use Rattle.checks.specs.First.{first}
use Rattle.checks.specs.Laws.Later.{fine-right, later-assoc}

-- what `?` returns of a fault: it
pub raised : {A : Type 0} {r : Result A Fault} {f : Fault} → IsErr r × IsErrAnd r (λ (e : Fault). e ≡ f) → r ≡ Err f
raised {r = r} h = let p = err_from_is_err_and r h.1 in p.1 ∙ ap Err p.2

-- ---- one check, and the rest
-- it is at fault, and `?` ends the chain
pub stops : {c : Checked} {f : Fault} {r : Checked} (rest : Checked)
    → IsErr r × IsErrAnd r (λ (e : Fault). e ≡ f) → Err f ≡ c → r ≡ later c rest
unfolding later
stops rest h e = raised h ∙ ap (λ (d : Checked). later d rest) e

-- it is fine, and the rest decides
pub passes : {c rest : Checked} {u : Unit {0}} {r : Checked} → Ok u ≡ c → r ≡ rest → r ≡ later c rest
unfolding later
passes {rest = rest} e decides = decides ∙ ap (λ (d : Checked). later d rest) e

-- it is the last
pub last : {r c : Checked} → r ≡ c → r ≡ later c (Ok tt)
last {c = c} e = e ∙ sym (fine-right c)

-- ---- a list of checks, and the rest
-- the first fault of the list, or, if it is fine, what the rest says
abbrev pub before : List Checked → Checked → Checked
before [] rest = rest
before (c ∷ cs) rest = later c (before cs rest)

is-before : (cs : List Checked) (rest : Checked) → later (first cs) rest ≡ before cs rest
unfolding later
is-before [] rest = refl
is-before (c ∷ cs) rest = later-assoc c (first cs) rest ∙ ap (later c) (is-before cs rest)

module _ (cs : List Checked) where
  pub list-stops : {f : Fault} {r : Checked} (rest : Checked)
      → IsErr r × IsErrAnd r (λ (e : Fault). e ≡ f) → Err f ≡ first cs → r ≡ before cs rest
  list-stops rest h e = stops rest h e ∙ is-before cs rest

  pub list-passes : {rest : Checked} {u : Unit {0}} {r : Checked} → Ok u ≡ first cs → r ≡ rest → r ≡ before cs rest
  list-passes {rest} e decides = passes {rest = rest} e decides ∙ is-before cs rest
