-- The quick tests of a pair, what is kept of a segment, and laws on them. No answer's definition names anything here, so a reader
-- need not believe it.
pub mod Workings
pub mod Laws
