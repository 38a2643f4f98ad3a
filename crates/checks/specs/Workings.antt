-- Quick tests of numbers. No answer's definition names them, so a reader need not believe them.
pub mod Inside
