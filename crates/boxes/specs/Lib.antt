-- Boxes of segments and of groups, the index of a path, and what is proved of their numbers. A reader need not believe Workings
-- and Laws.
pub mod Box
pub mod Groups
pub mod Index
pub mod BoxNumbers
pub mod GroupExact
pub mod Workings
pub mod Laws
