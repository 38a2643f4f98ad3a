-- Laws that only proofs need. A reader need not believe them: they are proved.
pub mod LargeReady
pub mod Buffers
pub mod LargeEntry
pub mod Cutting
pub mod LargeChains
pub mod LargeComplete
pub mod NoLarge
