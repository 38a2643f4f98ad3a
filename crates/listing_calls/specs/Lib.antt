-- The listings of two paths and of one, with their refusals (Listing), their pages (Pages), the boxed listings (Boxed), and the
-- rows handed back (Filled); then what is proved of them. A reader need not believe Workings and Laws.
pub mod Listing
pub mod Pages
pub mod Boxed
pub mod Filled
pub mod Refusals
pub mod PageRefusals
pub mod BoxedRefusals
pub mod Chain
pub mod Chained
pub mod HasRow
pub mod Complete
pub mod Joints
pub mod ChainedCalls
pub mod Traced
pub mod Workings
pub mod Laws
