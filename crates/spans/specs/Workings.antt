-- Spans, and the quick tests by them. No answer's definition names them, so a reader need not believe them.
pub mod Span
pub mod Sweep
pub mod Root
pub mod Line
pub mod LineArc
pub mod Circles
pub mod ArcArc
