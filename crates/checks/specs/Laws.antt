-- Laws that only proofs need. A reader need not believe them: they are proved.
pub mod Later
pub mod Fine
pub mod Traces
pub mod TraceBySum
pub mod Chains
pub mod Found
pub mod Steps
pub mod After
pub mod Answered
pub mod Raised
pub mod Chord
pub mod Lengths
pub mod RefusalNumbers
