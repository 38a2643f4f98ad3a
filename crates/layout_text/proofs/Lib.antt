pub mod Digits
pub mod VertexLines
pub mod Texts
