pub mod Bytes
pub mod Runs
pub mod Lines
pub mod Pairs
pub mod Written
pub mod Ends
