pub mod Flags
pub mod Lines
pub mod Marks
