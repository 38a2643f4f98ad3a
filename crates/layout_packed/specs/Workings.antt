-- The reader as a function of the bytes (Reader), and what the code's answers stand for (Shown). Read.antt names
-- `reads_packed`, but a reader need not believe it: Exactly.antt and Offset.antt prove what it accepts and reads, and what it
-- tells of the rest.
pub mod Reader
pub mod Shown
