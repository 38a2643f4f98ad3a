-- What a listing answers (Answer), the outcome of a listing of any sequence of pairs (Outcome), of a page of one (PageOutcome)
-- and of a boxed listing (BoxedOutcome), and what is proved of them (ListingNumbers, OneResult). A reader need not believe
-- Workings and Laws.
pub mod Answer
pub mod Outcome
pub mod PageOutcome
pub mod BoxedOutcome
pub mod ListingNumbers
pub mod OneResult
pub mod Workings
pub mod Laws
