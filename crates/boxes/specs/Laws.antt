-- Laws that only proofs need: on boxes that are joined, on their numbers, and on a coordinate that is moved. A reader need not
-- believe them: they are proved.
pub mod Joined
pub mod Numbers
pub mod Extremes
pub mod Moved
