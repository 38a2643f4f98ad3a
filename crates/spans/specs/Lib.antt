-- Numbers that are known to lie between two others, and laws on them. No answer's definition names anything here, so a reader
-- need not believe it.
pub mod Workings
pub mod Laws
