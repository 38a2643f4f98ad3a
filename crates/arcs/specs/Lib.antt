-- The sweep of an arc, which points lie on it, and how it meets a line or another arc. A reader need not believe
-- Workings and Laws.
pub mod ArcSweep
pub mod ArcGeometry
pub mod LineAndArc
pub mod TwoArcs
pub mod OneCircle
pub mod Outside
pub mod Workings
pub mod Laws
