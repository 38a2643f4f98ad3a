-- The proof of the promise on the grid (Proved), and of that for neighbouring lines of one path (JointsProved), with what they use.
pub mod Plane
pub mod Accepted
pub mod Joined
pub mod Crossed
pub mod Level
pub mod Kernel
pub mod Meeting
pub mod Proved
pub mod Boxes
pub mod Nearby
pub mod Jointed
pub mod JointsProved
