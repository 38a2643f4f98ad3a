-- How a listing, boxed or not, and a page go to a caller in C, as decided here: a number is returned, the counts go into a lent
-- slice of their own, and the rows and the index of boxes into the slices that the call is lent.
use Rattle.std.specs.Prelude.{ℕ, ◌≡◌, Bool, cond, List, [], ◌∷◌, ltb, length, Float, Err, Ok}
use Rattle.std.proofs.lemmas.List.Edits.{sets}
use Rattle.checks.specs.declared.fault.Fault.{Fault}
use Rattle.checks.specs.Word.{word}
use Rattle.listing_outcomes.specs.Answer.{ListingAnswer, PageAnswer}
use Rattle.listing_outcomes.specs.Outcome.{Outcome}
use Rattle.listing_outcomes.specs.BoxedOutcome.{BoxedOutcome}
use Rattle.capi.specs.Handed.{no_room_code}

-- ---- what is returned of an answer, and the counts that are written
pub record Counted : Type 0 where
  pub code : ℕ
  pub counts : List ℕ

-- the word of a refusal, and no counts; else 0, and the counts
abbrev pub refused_counts : Fault → Counted
refused_counts f = record { code = word f; counts = [] }

-- a listing: rows written, pairs looked at
abbrev pub count_places : ℕ
count_places = 2

abbrev pub listing : ListingAnswer → Counted
listing (Err f) = refused_counts f
listing (Ok listed) = record { code = 0; counts = listed.rows ∷ listed.pairs ∷ [] }

-- a page: rows written, pairs passed, the next position, all pairs
abbrev pub page_places : ℕ
page_places = 4

abbrev pub of_page : PageAnswer → Counted
of_page (Err f) = refused_counts f
of_page (Ok paged) = record { code = 0; counts = paged.rows ∷ paged.pairs ∷ paged.next ∷ paged.all ∷ [] }

-- ---- handed over, for any kind of answer; nothing is done if the counts' slice has too few places
pub record HandedOver {A : Type 0} (places : ℕ) (count : A → Counted) (o : Outcome A)
    (returned : ℕ) (c₀ c i₀ i : List ℕ) (p₀ p : List Float) : Type 0 where
  pub code_is : returned ≡ cond (ltb (length c₀) places) no_room_code (count o.answer).code
  pub counts : c ≡ cond (ltb (length c₀) places) c₀ (sets c₀ 0 (count o.answer).counts)
  pub indices : i ≡ cond (ltb (length c₀) places) i₀ o.indices
  pub points : p ≡ cond (ltb (length c₀) places) p₀ o.points

abbrev pub HandedListing : Outcome ListingAnswer → ℕ → List ℕ → List ℕ → List ℕ → List ℕ → List Float → List Float → Type 0
HandedListing o returned c₀ c i₀ i p₀ p = HandedOver count_places listing o returned c₀ c i₀ i p₀ p

abbrev pub HandedPage : Outcome PageAnswer → ℕ → List ℕ → List ℕ → List ℕ → List ℕ → List Float → List Float → Type 0
HandedPage o returned c₀ c i₀ i p₀ p = HandedOver page_places of_page o returned c₀ c i₀ i p₀ p

-- a boxed listing: as a listing, and the index of boxes
pub record HandedBoxed (o : BoxedOutcome) (returned : ℕ) (c₀ c : List ℕ) (b₀ b : List Float) (i₀ i : List ℕ) (p₀ p : List Float)
    : Type 0 where
  pub rows : HandedListing o.listing returned c₀ c i₀ i p₀ p
  pub boxes : b ≡ cond (ltb (length c₀) count_places) b₀ o.boxes
