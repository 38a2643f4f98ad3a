-- Laws that only proofs need. A reader need not believe them: they are proved.
pub mod Fine
pub mod Steps
pub mod After
pub mod Pieces
pub mod Joined
pub mod Places
pub mod Named
pub mod Quarters
pub mod HalfBulge
pub mod Sound
pub mod NoCut
pub mod CutPoint
pub mod Refused
pub mod RefusalNumbers
