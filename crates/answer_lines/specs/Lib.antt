-- The text of an answer (Lines), its sizes and what its writer promises (Written); then what is proved of them (OneResult, Room,
-- Examples). A reader need not believe Laws.
pub mod Lines
pub mod Sizes
pub mod Written
pub mod Laws
pub mod OneResult
pub mod Room
pub mod Examples
