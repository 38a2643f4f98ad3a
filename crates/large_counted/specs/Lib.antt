-- The counted listing of the mode of large arcs (LargeCounted), and what it adds to a report (LargeTotals). A reader need not
-- believe Workings and Laws.
pub mod LargeCounted
pub mod LargeTotals
pub mod Workings
pub mod Laws
