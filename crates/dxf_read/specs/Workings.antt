-- What the code keeps of numbers, and what its answers stand for.
pub mod Kept
pub mod Shown
pub mod Pairs
pub mod Scanning
pub mod Finishing
