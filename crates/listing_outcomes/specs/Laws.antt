-- Laws that only proofs need: on values that overwrite the front of a list, and on counts. A reader need not believe them: they are proved.
pub mod Overwrite
pub mod Counts
