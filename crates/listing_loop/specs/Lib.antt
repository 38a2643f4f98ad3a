-- The loop of every listing, and laws on it and on pages. No answer's definition names anything here, so a reader need not
-- believe it.
pub mod Workings
pub mod Laws
