-- Laws that only proofs need. A reader need not believe them: they are proved.
pub mod Carried
pub mod FromText
pub mod FromPacked
pub mod Ends
pub mod Given
