-- When two segments are clearly apart, what is kept of a segment, and when all numbers are fine by the quick test. No answer's
-- definition names them, so a reader need not believe them.
pub mod ClearlyApart
pub mod Kept
pub mod AllFine
pub mod Misses
