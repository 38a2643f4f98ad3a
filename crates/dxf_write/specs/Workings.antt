-- The contracts of the private functions. No answer's definition names it, so a reader need not believe it.
pub mod Told
