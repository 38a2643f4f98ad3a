-- How the outcome of a listing, boxed or not, and that of a page come from pages that the loop fills. No answer's definition
-- names anything here, so a reader need not believe it.
pub mod Outcome
pub mod PageOutcome
pub mod BoxedOutcome
