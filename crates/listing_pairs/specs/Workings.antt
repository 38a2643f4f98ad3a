-- How the loop of a listing works: which pairs it walks (Job), how many there are and where one of them stands (Position), what
-- it may rely on (Ready), whether a pair meets only at a joint (Joint), what it keeps of segments (Keeping) and of which
-- (Reached), of groups of them for the traces (Tracks), and the rows that it stores (Stored). No answer's definition names anything here, so a reader need not believe it.
pub mod Job
pub mod Position
pub mod Joint
pub mod Ready
pub mod Tracks
pub mod Keeping
pub mod Reached
pub mod Stored
