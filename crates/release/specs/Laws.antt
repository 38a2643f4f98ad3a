-- Laws that only proofs need. A reader need not believe them: they are proved.
pub mod Accepted
pub mod Kernels
pub mod Range
pub mod Pair
pub mod Rows
pub mod Chains
pub mod Looks
pub mod Outcomes
pub mod Listings
pub mod LargeListings
pub mod LargeResults
