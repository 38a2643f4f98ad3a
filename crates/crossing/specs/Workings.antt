-- The quick tests of src/shortcuts.rt and line_circle.rt, with what a yes of each means, and what a pair's kernel found. No
-- answer's definition names them, so a reader need not believe them.
pub mod FarLine
pub mod ThroughLine
pub mod Apart
pub mod Nested
pub mod PairKernel
