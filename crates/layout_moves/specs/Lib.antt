-- What moving a layout promises (Moves); then what is proved of it (BackAndForth, MovePromise, PackPromise, UnpackPromise,
-- RoundTrip, ReadEnough, Examples). A reader need not believe Workings and Laws.
pub mod Moves
pub mod Workings
pub mod Laws
pub mod BackAndForth
pub mod MovePromise
pub mod PackPromise
pub mod UnpackPromise
pub mod RoundTrip
pub mod ReadEnough
pub mod Examples
