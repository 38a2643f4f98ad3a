-- Where the parts of a segment start, the quick test of their numbers, and the parts with their circles. No answer's definition
-- names them, so a reader need not believe them.
pub mod Starts
pub mod PartsFine
pub mod Pieces
