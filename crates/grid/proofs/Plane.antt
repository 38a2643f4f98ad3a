-- The points and straight lines of the promise, over whole numbers.
pub mod Sides
pub mod Spans
pub mod Spots
pub mod Cross
pub mod Suffices
pub mod Joints
pub mod Overlap
pub mod Parts
pub mod Ends
pub mod Beyond
pub mod Points
