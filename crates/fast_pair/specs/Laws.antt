-- Laws that only proofs need: a yes of a quick test means what the definitions say.
pub mod Lines
pub mod Line
pub mod Pair
pub mod AllFine
pub mod Misses
