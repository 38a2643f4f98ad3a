-- What is told of a pair's computed points (request 7). What is proved of it stands in `told`. A reader need not believe
-- Workings.
pub mod Finding
pub mod LineAndArc
pub mod TwoArcs
pub mod Report
pub mod Workings
