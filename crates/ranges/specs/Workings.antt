-- The quick tests of src/range.rt. No answer's definition names them, so a reader need not believe them.
pub mod OnSegment
