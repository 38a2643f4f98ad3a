-- A lent path: its vertices, shape and segments, the check of its numbers, the view, and what is proved of them. A reader need
-- not believe Workings and Laws.
pub mod Path
pub mod Shape
pub mod Segments
pub mod SegmentNumbers
pub mod Check
pub mod PathRefusals
pub mod Chords
pub mod View
pub mod Workings
pub mod Laws
