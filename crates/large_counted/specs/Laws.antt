-- Laws that only proofs need. A reader need not believe them: they are proved.
pub mod LargeGiven
pub mod LargeCounting
pub mod OldCounted
