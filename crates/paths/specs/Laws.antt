-- Laws that only proofs need: on segments, on the loops that check a path, and on what a path is whose check finds no fault.
pub mod Segments
pub mod Along
pub mod Steps
pub mod After
pub mod Fine
pub mod RefusalNumbers
