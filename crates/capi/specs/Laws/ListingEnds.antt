-- The two ends of handing an outcome over: there is no room for the counts, or the answer's code and counts are handed over.
use Rattle.std.specs.Prelude.{ℕ, ◌<◌, ◌≤◌, ◌≡◌, List, Float, length}
use Rattle.std.proofs.Common.{ap, ◌∙◌, lt-ltb, le-ltb}
use Rattle.std.proofs.lemmas.List.Edits.{sets}
use Rattle.listing_outcomes.specs.Answer.{ListingAnswer}
use Rattle.listing_outcomes.specs.Outcome.{Outcome, Leaves}
use Rattle.capi.specs.Handed.{no_room_code}
use Rattle.listing_outcomes.specs.BoxedOutcome.{BoxedOutcome, LeavesBoxed}
use Rattle.capi.specs.HandedListing.{Counted, HandedOver, HandedBoxed, count_places, listing}

module _ {A : Type 0} {count : A → Counted} where
  module _ {places : ℕ} (o : Outcome A) (c₀ i₀ : List ℕ) (p₀ : List Float) where
    pub no_room : length c₀ < places → HandedOver places count o no_room_code c₀ c₀ i₀ i₀ p₀ p₀
    no_room h =
        let e = lt-ltb (length c₀) places h in record { code_is = simp e; counts = simp e; indices = simp e; points = simp e }

    pub handed : places ≤ length c₀
        → (a : A) (n : ℕ) (c i : List ℕ) (p : List Float) → Leaves o a i p → n ≡ (count a).code
        → c ≡ sets c₀ 0 (count a).counts → HandedOver places count o n c₀ c i₀ i p₀ p
    handed h a n c i p leaves code_is counts =
        let e = le-ltb (length c₀) places h in
        record {
          code_is = simp e (code_is ∙ ap (λ (t : A). (count t).code) leaves.answer);
          counts = simp e (counts ∙ ap (λ (t : A). sets c₀ 0 (count t).counts) leaves.answer);
          indices = simp e leaves.indices;
          points = simp e leaves.points;
        }

-- a boxed listing
module _ (o : BoxedOutcome) (c₀ : List ℕ) (b₀ : List Float) (i₀ : List ℕ) (p₀ : List Float) where
  pub no-room-boxed : length c₀ < count_places → HandedBoxed o no_room_code c₀ c₀ b₀ b₀ i₀ i₀ p₀ p₀
  no-room-boxed h =
      let e = lt-ltb (length c₀) count_places h in record { rows = no_room o.listing c₀ i₀ p₀ h; boxes = simp e }

  pub handed-boxed : count_places ≤ length c₀
      → (a : ListingAnswer) (n : ℕ) (c : List ℕ) (b : List Float) (i : List ℕ) (p : List Float) → LeavesBoxed o a b i p
      → n ≡ (listing a).code → c ≡ sets c₀ 0 (listing a).counts → HandedBoxed o n c₀ c b₀ b i₀ i p₀ p
  handed-boxed h a n c b i p leaves code_is counts =
      let e = le-ltb (length c₀) count_places h in
      record {
        rows = handed o.listing c₀ i₀ p₀ h a n c i p leaves.listing code_is counts;
        boxes = simp e leaves.boxes;
      }
