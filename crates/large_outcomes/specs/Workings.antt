pub mod Spread
pub mod LargeOutcome
