pub mod Groups
pub mod Vertices
pub mod Files
pub mod Ends
