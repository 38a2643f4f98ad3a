-- The answer of the program `crossings` to its input (Answer); then what is proved of it: which answer an input gets, exactly
-- (Answers), that the first bytes decide it (ReadEnough), and that nothing of it is cut (Room); and worked examples. A reader need
-- not believe Laws.
pub mod Answer
pub mod Laws
pub mod Answers
pub mod ReadEnough
pub mod Room
pub mod Examples
