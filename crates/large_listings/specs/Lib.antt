-- Listings of the mode of large arcs, by request 11: the calls (LargeListings), and what is proved of them. The crate
-- `large_promise` has what follows from these. A reader need not believe Workings and Laws.
pub mod LargeListings
pub mod OverCutPath
pub mod NoLarge
pub mod BesideOld
pub mod LargeRefusals
pub mod LargePageRefusals
pub mod LargeBoxedRefusals
pub mod LargeTraced
pub mod HasLargeRow
pub mod LargeComplete
pub mod LargeChain
pub mod LargeChained
pub mod Workings
pub mod Laws
