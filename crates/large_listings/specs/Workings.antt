pub mod Jobs
pub mod Cutting
