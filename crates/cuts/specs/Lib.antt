-- Arcs beyond a half circle: the cut, the checks in the mode of large arcs, the cut path, and what is proved of them. A reader
-- need not believe Workings and Laws.
pub mod Cut
pub mod LargeChecks
pub mod CutPath
pub mod Written
pub mod Parts
pub mod Segments
pub mod NameWords
pub mod Accepted
pub mod Uncut
pub mod LargeRefusals
pub mod Examples
pub mod Workings
pub mod Laws
