-- The text of a layout (Form) and its sizes; then what is proved of them: which texts are read, and as what (Exactly), how long
-- they are (Long), and worked examples. A reader need not believe Workings and Laws.
pub mod Form
pub mod Sizes
pub mod Examples
pub mod Workings
pub mod Laws
pub mod Long
pub mod Exactly
