-- What a listing answers, and what a page of one does: its counts, or the first fault.
use Rattle.std.specs.Prelude.{ℕ, Result, Ok}
use Rattle.checks.specs.declared.fault.Fault.{Fault}
use Rattle.listing_outcomes.specs.declared.answer.Counts.{Counts}
use Rattle.listing_outcomes.specs.declared.answer.PageCounts.{PageCounts}

abbrev pub ListingAnswer : Type 0
ListingAnswer = Result Counts Fault

abbrev pub PageAnswer : Type 0
PageAnswer = Result PageCounts Fault

-- so many rows were written, and so many pairs looked at
abbrev pub Listed : ℕ → ℕ → ListingAnswer
Listed rows pairs = Ok (record { rows = rows; pairs = pairs })

-- so many rows were written and so many pairs passed; the position of the next page; so many pairs in all
abbrev pub Paged : ℕ → ℕ → ℕ → ℕ → PageAnswer
Paged rows pairs next all = Ok (record { rows = rows; pairs = pairs; next = next; all = all })
