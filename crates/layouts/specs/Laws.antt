-- Laws that only proofs need. A reader need not believe them: they are proved.
pub mod Whole
pub mod Signs
pub mod Minuses
