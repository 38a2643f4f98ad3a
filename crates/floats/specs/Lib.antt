-- The signs of f64 arithmetic (Ops); the four float functions on values (F64) and on patterns (Bits); what is proved of them
-- (Nearest, Agree, Ieee754, Ieee754Root). A reader need not believe Workings and Laws.
pub mod Ops
pub mod F64
pub mod Bits
pub mod Nearest
pub mod Agree
pub mod Ieee754
pub mod Ieee754Root
pub mod Workings
pub mod Laws
