-- What two segments between grid points share, over whole numbers: laws for the proof of the promise.
pub mod Whole
pub mod Ring
pub mod Order
pub mod Sides
