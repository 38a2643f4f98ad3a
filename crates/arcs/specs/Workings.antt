-- The circle of an arc, computed once for all its pairs, and the quick test whether ends lie on the other arc. No answer's
-- definition names them, so a reader need not believe them.
pub mod Circles
pub mod Ends
