-- Laws that only proofs need: how computed points and the points of an answer agree, branch by branch. A reader need not believe
-- them: they are proved.
pub mod Agree
pub mod Counts
pub mod LineAndArc
pub mod OneCircle
pub mod Slots
pub mod TwoArcs
