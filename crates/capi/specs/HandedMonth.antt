-- How a counted listing and a join go to a caller in C: a number is returned; the counts, the rows and the report go into the
-- lent slices.
use Rattle.std.specs.Prelude.{ℕ, ◌≡◌, cond, List, [], ltb, length, Float, Err, Ok}
use Rattle.checks.specs.Word.{word}
use Rattle.month.specs.Counted.{CountedOutcome, CountedAnswer}
use Rattle.month.specs.Join.{JoinOutcome, JoinAnswer}
use Rattle.capi.specs.Handed.{no_room_code}
use Rattle.capi.specs.HandedListing.{Counted, HandedOver, count_places, listing, refused_counts}
use Rattle.checks.specs.declared.call.CallError.TheVariants.{NoRoom, Refused}

-- ---- a counted listing
-- the listing's code and counts; the code of no room if the report has too few words
abbrev pub of_counted : CountedAnswer → Counted
of_counted (Err NoRoom) = record { code = no_room_code; counts = [] }
of_counted (Err (Refused f)) = refused_counts f
of_counted (Ok counts) = listing (Ok counts)

-- nothing is done if the counts' slice has too few places
pub record HandedCounted (o : CountedOutcome) (returned : ℕ) (c₀ c i₀ i : List ℕ) (p₀ p : List Float) (w₀ w : List ℕ) : Type 0 where
  pub rows : HandedOver count_places of_counted o.listing returned c₀ c i₀ i p₀ p
  pub report : w ≡ cond (ltb (length c₀) count_places) w₀ o.report

-- ---- a join: 0, the word of a refusal, or the code of no room
abbrev pub join_code : JoinAnswer → ℕ
join_code (Err NoRoom) = no_room_code
join_code (Err (Refused f)) = word f
join_code (Ok tt) = 0

pub record HandedJoin (o : JoinOutcome) (returned : ℕ) (sum : List ℕ) : Type 0 where
  pub code_is : returned ≡ join_code o.answer
  pub into : sum ≡ o.into
