-- A layout (Layout), its limits and its floats (Numbers); then what is proved of them (Exact). A reader need not believe Laws.
pub mod Limits
pub mod Layout
pub mod Numbers
pub mod Laws
pub mod Exact
