-- Laws that only proofs need, and that the widths of packed files are the listing's. A reader need not believe them: they are
-- proved.
pub mod Widths
pub mod Begins
pub mod Ends
pub mod Bytes
pub mod Apart
pub mod Passed
