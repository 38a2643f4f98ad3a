-- The contracts of the private functions that move vertices. No answer's definition names it, so a reader need not believe it.
pub mod Carried
