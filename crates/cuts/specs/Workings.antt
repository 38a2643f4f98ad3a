-- The quick test of a path's vertices, and loops that write lists. No answer's definition names them, so a reader need not
-- believe them.
pub mod Inside
pub mod Writing
pub mod Words
