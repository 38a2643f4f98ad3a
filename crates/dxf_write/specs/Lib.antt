-- The text of a number (Millionths, Written), what an export answers (Export), when it does so in a caller's words (When), and
-- the path that it gives back (Untraced); then what is proved of them: Spelt, OnlyCandidate, RoundTrip, ExportPromise,
-- LayoutBulges, Examples. A reader need not believe Workings and Laws.
pub mod Millionths
pub mod Written
pub mod Export
pub mod When
pub mod Untraced
pub mod Workings
pub mod Laws
pub mod Spelt
pub mod OnlyCandidate
pub mod RoundTrip
pub mod ExportPromise
pub mod LayoutBulges
pub mod Examples
