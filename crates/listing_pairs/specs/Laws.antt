-- Laws that only proofs need, on the sequence of pairs. A reader need not believe them: they are proved.
pub mod Sequence
pub mod Order
pub mod Zero
pub mod Skipped
