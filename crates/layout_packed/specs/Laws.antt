-- Laws that only proofs need. A reader need not believe them: they are proved.
pub mod Groups
pub mod Number
pub mod Zigzag
pub mod Long
pub mod Put
pub mod Vertices
pub mod Said
pub mod Order
pub mod Faults
pub mod Apart
pub mod Lengths
pub mod Cut
