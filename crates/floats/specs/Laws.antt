-- Laws on the definitions that only proofs need. A reader need not believe them: they are proved.
pub mod Isqrt
pub mod Turns
pub mod RootAt
pub mod Root
pub mod Pairs
pub mod Picked
pub mod Sqrt
pub mod Leaves
pub mod Sizes
pub mod RootPowers
pub mod RootBeside
pub mod Nan
pub mod RootCases
