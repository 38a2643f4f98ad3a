-- Laws that only proofs need. A reader need not believe them: they are proved.
pub mod Agree
pub mod Answered
pub mod OldFirst
pub mod Starts
