-- How the root is found, digit by digit. No answer's definition names it, so a reader need not believe it.
pub mod Root
