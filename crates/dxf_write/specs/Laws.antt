-- Laws that only proofs need. A reader need not believe them: they are proved.
pub mod Value
pub mod Candidate
pub mod Number
pub mod Put
pub mod Passes
pub mod Ends
pub mod Back
pub mod Checked
pub mod RefusalNumbers
pub mod Low
pub mod When
pub mod Trip
