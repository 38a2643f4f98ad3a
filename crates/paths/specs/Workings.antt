-- The quick test of a path's vertices. No answer's definition names it, so a reader need not believe it.
pub mod Inside
