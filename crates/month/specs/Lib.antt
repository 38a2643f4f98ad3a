-- A month's report (Report), what a counted listing adds to it (Counted), and two reports joined (Join); then what is proved of
-- them. A reader need not believe Workings and Laws.
pub mod Report
pub mod Counted
pub mod Join
pub mod Given
pub mod Refusals
pub mod Totals
pub mod Run
pub mod Runs
pub mod Joined
pub mod Workings
pub mod Laws
