-- The line kernel's floats on the grid, in whole numbers: laws for the proof of the promise. Whole numbers, their tests and
-- lengths; the range test and the point at a parameter; lines that cross; lines that do not.
pub mod Small
pub mod Zero
pub mod Length
pub mod Ratio
pub mod Bounds
pub mod Reach
pub mod Range
pub mod Point
pub mod Crossing
pub mod Span
pub mod Shared
pub mod Overlap
pub mod Parallel
pub mod Ways
pub mod Joint
