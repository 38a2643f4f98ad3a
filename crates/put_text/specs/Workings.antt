-- The contracts of the functions that put bytes. No answer's definition names it, so a reader need not believe it.
pub mod Put
