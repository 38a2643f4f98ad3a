-- A listing's answer in whole numbers: 1 and the fault's numbers (the refusal's number, owner, index, item); or 0, the rows
-- written and the pairs looked at. A page's answer: 1 and the fault's numbers; or 0, the rows written, the pairs passed, the
-- next position and all pairs. Two answers with the same numbers are the same.
use Rattle.std.specs.Prelude.{◌≡◌, refl, List, [], ◌∷◌, ℕ, zero, suc, Err, Ok}
use Rattle.std.proofs.Common.{sym, ap, ◌∙◌}
use Rattle.checks.specs.declared.fault.Item.{Item}
use Rattle.checks.specs.declared.fault.Item.TheVariants.{Epsilon}
use Rattle.checks.specs.declared.fault.Fault.{Fault}
use Rattle.checks.specs.Fault.{at, whole}
use Rattle.checks.specs.FaultNumbers.{item, item_back, item-same}
use Rattle.listing_outcomes.specs.Answer.{Listed, ListingAnswer, PageAnswer, Paged}

abbrev pub numbers_of_fault : Fault → List ℕ
numbers_of_fault f = f.number ∷ f.place.owner ∷ f.place.index ∷ item f.place.item ∷ []

abbrev pub listing_numbers : ListingAnswer → List ℕ
listing_numbers (Err f) = 1 ∷ numbers_of_fault f
listing_numbers (Ok counts) = 0 ∷ counts.rows ∷ counts.pairs ∷ []

abbrev pub page_numbers : PageAnswer → List ℕ
page_numbers (Err f) = 1 ∷ numbers_of_fault f
page_numbers (Ok counts) = 0 ∷ counts.rows ∷ counts.pairs ∷ counts.next ∷ counts.all ∷ []

-- ---- back from the numbers
fault-back : List ℕ → Fault
fault-back [] = whole 0 Epsilon
fault-back (n ∷ []) = whole 0 Epsilon
fault-back (n ∷ owner ∷ []) = whole 0 Epsilon
fault-back (n ∷ owner ∷ index ∷ []) = whole 0 Epsilon
fault-back (n ∷ owner ∷ index ∷ i ∷ rest) = record { number = n; place = at owner index (item_back i) }

fault-same : (f : Fault) → fault-back (numbers_of_fault f) ≡ f
unfolding fault-back
fault-same f =
    ap (λ (i : Item). record { number = f.number; place = at f.place.owner f.place.index i })
    (item-same f.place.item)

listed_back : List ℕ → ListingAnswer
listed_back [] = Listed 0 0
listed_back (rows ∷ []) = Listed 0 0
listed_back (rows ∷ pairs ∷ rest) = Listed rows pairs

back : List ℕ → ListingAnswer
back [] = Listed 0 0
back (zero ∷ rest) = listed_back rest
back (suc n ∷ rest) = Err (fault-back rest)

numbers-back : (a : ListingAnswer) → back (listing_numbers a) ≡ a
unfolding back listed_back
numbers-back (Err f) = ap Err (fault-same f)
numbers-back (Ok counts) = refl

pub same_numbers : (a b : ListingAnswer) → listing_numbers a ≡ listing_numbers b → a ≡ b
same_numbers a b e = sym (numbers-back a) ∙ ap back e ∙ numbers-back b

-- ---- a page
paged-back : List ℕ → PageAnswer
paged-back [] = Paged 0 0 0 0
paged-back (rows ∷ []) = Paged 0 0 0 0
paged-back (rows ∷ pairs ∷ []) = Paged 0 0 0 0
paged-back (rows ∷ pairs ∷ next ∷ []) = Paged 0 0 0 0
paged-back (rows ∷ pairs ∷ next ∷ all ∷ rest) = Paged rows pairs next all

page-back : List ℕ → PageAnswer
page-back [] = Paged 0 0 0 0
page-back (zero ∷ rest) = paged-back rest
page-back (suc n ∷ rest) = Err (fault-back rest)

page-numbers-back : (a : PageAnswer) → page-back (page_numbers a) ≡ a
unfolding page-back paged-back
page-numbers-back (Err f) = ap Err (fault-same f)
page-numbers-back (Ok counts) = refl

pub same-page-numbers : (a b : PageAnswer) → page_numbers a ≡ page_numbers b → a ≡ b
same-page-numbers a b e = sym (page-numbers-back a) ∙ ap page-back e ∙ page-numbers-back b
