-- How two segments meet in the mode of large arcs (LargePair), and what is proved of it: how many results there are and in which
-- order (Results), that a pair without a large arc is answered as before (SameAsPair), when exactly it is refused (Refusals), and
-- that the promise allows one result only (OneResult); and a worked example (Examples). A reader need not believe Workings and
-- Laws.
pub mod LargePair
pub mod Results
pub mod SameAsPair
pub mod Refusals
pub mod OneResult
pub mod Examples
pub mod Workings
pub mod Laws
