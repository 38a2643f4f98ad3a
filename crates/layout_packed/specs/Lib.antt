-- The packed form of a number (Groups) and of a layout (Packed), the limits of what is written (Limits), where a fault lies
-- (Fault), and what the reader promises (Read); then what is proved of them (Shortest, Exactly, Offset, Lengths, ReaderPromise,
-- Examples). A reader need not believe Workings and Laws.
pub mod Limits
pub mod Groups
pub mod Packed
pub mod Fault
pub mod Workings
pub mod Laws
pub mod Read
pub mod Shortest
pub mod Exactly
pub mod Offset
pub mod Lengths
pub mod ReaderPromise
pub mod Examples
