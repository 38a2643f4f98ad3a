-- The reader as a function of the bytes (Reader), and what the code's answers stand for (Shown). Read.antt names `reads`, but a
-- reader need not believe it: Exactly.antt proves what it accepts and what it reads.
pub mod Reader
pub mod Shown
