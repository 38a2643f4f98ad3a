-- Rows of five numbers (LargeRow), and the outcome of a listing, of a page and of a boxed listing with such rows (LargeOutcome).
-- A reader need not believe Workings and Laws.
pub mod LargeRow
pub mod LargeOutcome
pub mod Workings
pub mod Laws
