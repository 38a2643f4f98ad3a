-- When a parameter lies on a segment. A reader need not believe Workings and Laws.
pub mod Range
pub mod Workings
pub mod Laws
