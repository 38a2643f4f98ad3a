-- What is proved of a pair's findings (request 7): class and points are the pair call's (SameAsPair), a finding's number tells it
-- (ToldApart), and what findings say of the answer (Stands, proved in StandsProved). A reader need not believe Laws.
pub mod SameAsPair
pub mod ToldApart
pub mod Stands
pub mod StandsProved
pub mod Laws
