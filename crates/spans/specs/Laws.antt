-- Laws that only proofs need: a yes of a quick test means what the definitions say.
pub mod Monotone
pub mod Spans
pub mod Root
pub mod Sweep
pub mod Line
pub mod LineArc
pub mod Circles
pub mod ArcArc
