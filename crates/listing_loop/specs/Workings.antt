-- What `fill::fill` promises, in terms of pages of a listing. No answer's definition names anything here, so a reader need not
-- believe it.
pub mod Filling
pub mod Runs
pub mod Sift
pub mod Walk
