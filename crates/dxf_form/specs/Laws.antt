-- Laws on the reader and on the form, by which Exactly.antt is proved.
pub mod Turns
pub mod Capped
pub mod Bytes
pub mod Whole
pub mod Decimal
pub mod Skipping
pub mod Values
pub mod Pairs
pub mod Steps
pub mod Faults
pub mod Grammar
pub mod Once
pub mod Bodies
pub mod Divided
