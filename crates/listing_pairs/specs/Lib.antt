-- A row (Row), the order of pairs (Order), the rows of a sequence of pairs (Rows), a page of one (Page), what a pair gives
-- (Look), which pairs are passed over by their traces (Traces), and the pairs of a boxed listing (Boxed). A reader need not
-- believe Workings and Laws.
pub mod Row
pub mod Order
pub mod Rows
pub mod Page
pub mod Look
pub mod Traces
pub mod Boxed
pub mod Neighbours
pub mod TracedListing
pub mod Workings
pub mod Laws
