pub mod Workings
pub mod Laws
