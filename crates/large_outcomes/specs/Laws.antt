-- Laws that only proofs need: on rows that are spread, and on the parts of slices that a listing is lent. A reader need not
-- believe them: they are proved.
pub mod Spreading
pub mod Parts
pub mod Large
pub mod Names
