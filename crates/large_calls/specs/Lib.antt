-- The calls of the mode of large arcs. Their definitions, and what is proved of them, stand in the crate `large_listings`. A
-- reader need not believe Workings and Laws.
pub mod Workings
pub mod Laws
