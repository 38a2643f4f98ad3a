-- The promise of a call for C allows one result only: two returned numbers that it allows are equal, and so are the slices
-- afterwards.
use Rattle.findings.specs.declared.reported.Reported.{Reported}
use Rattle.checks.specs.declared.fault.Fault.{Fault}
use Rattle.std.specs.Prelude.{ℕ, ◌≡◌, List, Float, Result}
use Rattle.std.proofs.Common.{sym, ◌∙◌}
use Rattle.listing_outcomes.specs.Outcome.{Outcome}
use Rattle.capi.specs.Handed.{Handed}
use Rattle.capi.specs.HandedFindings.{HandedFindings}
use Rattle.listing_outcomes.specs.BoxedOutcome.{BoxedOutcome}
use Rattle.capi.specs.HandedListing.{Counted, HandedOver, HandedBoxed}
use Rattle.month.specs.Counted.{CountedOutcome}
use Rattle.month.specs.Join.{JoinOutcome}
use Rattle.capi.specs.HandedMonth.{HandedCounted, HandedJoin}
use Rattle.capi.specs.HandedDxf.{HandedTold}
use Rattle.answers.specs.declared.padded.PaddedAnswer.{PaddedAnswer}

pub handed-one-result : {f : PaddedAnswer} {r s : ℕ} {old a b : List Float} → Handed f r old a → Handed f s old b
    → (r ≡ s) × (a ≡ b)
handed-one-result p q = (p.code_is ∙ sym q.code_is, p.holds ∙ sym q.holds)

pub findings-one-result : {told : (Result Reported Fault)} {r s : ℕ} {old a b : List Float} {old_findings f g : List ℕ}
    → HandedFindings told r old a old_findings f → HandedFindings told s old b old_findings g → (r ≡ s) × (a ≡ b) × (f ≡ g)
findings-one-result p q = (p.code_is ∙ sym q.code_is, p.holds ∙ sym q.holds, p.tells ∙ sym q.tells)

pub counted-one-result : {A : Type 0} {places : ℕ} {count : A → Counted} {o : Outcome A} {r s : ℕ}
    {c₀ c d i₀ i j : List ℕ} {p₀ p q : List Float}
    → HandedOver places count o r c₀ c i₀ i p₀ p → HandedOver places count o s c₀ d i₀ j p₀ q
    → (r ≡ s) × (c ≡ d) × (i ≡ j) × (p ≡ q)
counted-one-result a b =
    (a.code_is ∙ sym b.code_is, a.counts ∙ sym b.counts, a.indices ∙ sym b.indices, a.points ∙ sym b.points)

pub boxed-one-result : {o : BoxedOutcome} {r s : ℕ} {c₀ c d i₀ i j : List ℕ} {b₀ a b p₀ p q : List Float}
    → HandedBoxed o r c₀ c b₀ a i₀ i p₀ p → HandedBoxed o s c₀ d b₀ b i₀ j p₀ q
    → (r ≡ s) × (c ≡ d) × (i ≡ j) × (p ≡ q) × (a ≡ b)
boxed-one-result x y =
    let same = counted-one-result x.rows y.rows in
    (same.0, same.1, same.2, same.3, x.boxes ∙ sym y.boxes)

pub month-one-result : {o : CountedOutcome} {r s : ℕ} {c₀ c d i₀ i j : List ℕ} {p₀ p q : List Float} {w₀ w v : List ℕ}
    → HandedCounted o r c₀ c i₀ i p₀ p w₀ w → HandedCounted o s c₀ d i₀ j p₀ q w₀ v
    → (r ≡ s) × (c ≡ d) × (i ≡ j) × (p ≡ q) × (w ≡ v)
month-one-result x y =
    let same = counted-one-result x.rows y.rows in
    (same.0, same.1, same.2, same.3, x.report ∙ sym y.report)

pub join-one-result : {o : JoinOutcome} {r s : ℕ} {w v : List ℕ} → HandedJoin o r w → HandedJoin o s v → (r ≡ s) × (w ≡ v)
join-one-result x y = (x.code_is ∙ sym y.code_is, x.into ∙ sym y.into)

-- an import, and an export
pub told-one-result : {A B : Type 0} {words : ℕ} {count : A → Counted} {answer : A} {left : List B} {r s : ℕ}
    {t₀ t u : List ℕ} {s₀ p q : List B}
    → HandedTold words count answer left r t₀ t s₀ p → HandedTold words count answer left s t₀ u s₀ q
    → (r ≡ s) × (t ≡ u) × (p ≡ q)
told-one-result x y = (x.code_is ∙ sym y.code_is, x.told ∙ sym y.told, x.holds ∙ sym y.holds)
