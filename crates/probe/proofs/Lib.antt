mod Written
pub mod Tellings
