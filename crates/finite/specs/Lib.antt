-- What the kernels and the pair answer on accepted numbers is finite: bounds by powers of two, carried through each operation.
-- What a bound is, and the laws of + - * / for any format, are in Sizes of `float_laws`; those of the absolute value, minimum,
-- maximum and root in Sizes of `floats`. Doubles has both at binary64, and what a failed test of nearness says; Limits what the
-- checks say; Vectors has points. Then the kernels (LineLine, LineCircle, CircleCircle), an arc's circle (ArcCircle), where the
-- points of an answer come from (Points), and the pair (Pair). All are laws: the crate `release` has what is said with them.
pub mod Branch
pub mod Doubles
pub mod Limits
pub mod Vectors
pub mod LineLine
pub mod LineCircle
pub mod CircleCircle
pub mod ArcCircle
pub mod Points
pub mod Pair
