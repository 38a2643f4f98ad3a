-- The numbers that are refused: definitions, from the refusals' numbers up to lists of checks and what a call answers by them,
-- and what is proved of them. A reader need not believe Workings and Laws.
pub mod Refusal
pub mod Limit
pub mod Checked
pub mod Fault
pub mod Number
pub mod Each
pub mod Arc
pub mod Exactly
pub mod RefusalTable
pub mod Edges
pub mod Traces
pub mod First
pub mod FirstFault
pub mod Lists
pub mod Calls
pub mod Chord
pub mod Answered
pub mod ExactlyWhen
pub mod FaultNumbers
pub mod Word
pub mod Words
pub mod Workings
pub mod Laws
