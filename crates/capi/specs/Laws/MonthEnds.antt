-- The ends of handing a counted listing over: there is no room for the counts, or its code, counts and report are handed over.
use Rattle.std.specs.Prelude.{ℕ, ◌<◌, ◌≤◌, ◌≡◌, List, Float, length}
use Rattle.std.proofs.Common.{ap, ◌∙◌, lt-ltb, le-ltb}
use Rattle.std.proofs.lemmas.List.Edits.{sets}
use Rattle.month.specs.Counted.{CountedOutcome, LeavesCounted, CountedAnswer}
use Rattle.month.specs.Join.{JoinOutcome, LeavesJoin, JoinAnswer}
use Rattle.capi.specs.Handed.{no_room_code}
use Rattle.capi.specs.HandedListing.{count_places}
use Rattle.capi.specs.HandedMonth.{of_counted, HandedCounted, join_code, HandedJoin}
use Rattle.capi.specs.Laws.ListingEnds.{no_room, handed}

module _ (o : CountedOutcome) (c₀ i₀ : List ℕ) (p₀ : List Float) (w₀ : List ℕ) where
  pub no-room-counted : length c₀ < count_places → HandedCounted o no_room_code c₀ c₀ i₀ i₀ p₀ p₀ w₀ w₀
  no-room-counted h =
      let e = lt-ltb (length c₀) count_places h in record { rows = no_room o.listing c₀ i₀ p₀ h; report = simp e }

  pub handed-counted : count_places ≤ length c₀
      → (a : CountedAnswer) (n : ℕ) (c i : List ℕ) (p : List Float) (w : List ℕ) → LeavesCounted o a i p w
      → n ≡ (of_counted a).code → c ≡ sets c₀ 0 (of_counted a).counts → HandedCounted o n c₀ c i₀ i p₀ p w₀ w
  handed-counted h a n c i p w leaves code_is counts =
      let e = le-ltb (length c₀) count_places h in
      record {
        rows = handed o.listing c₀ i₀ p₀ h a n c i p leaves.listing code_is counts;
        report = simp e leaves.report;
      }

-- a join
pub handed-join : (o : JoinOutcome) (a : JoinAnswer) (n : ℕ) (w : List ℕ) → LeavesJoin o a w → n ≡ join_code a → HandedJoin o n w
handed-join o a n w leaves code_is = record { code_is = code_is ∙ ap join_code leaves.answer; into = leaves.into }
