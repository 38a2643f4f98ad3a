-- The three kernels, the pair over them, and the four calls with their refusals. What is proved of the calls stands in
-- `answers`. A reader need not believe Workings.
pub mod LineLine
pub mod LineCircle
pub mod CircleCircle
pub mod PlineSegIntr
pub mod LineArc
pub mod ArcArc
pub mod PlineSeg
pub mod AnswerNumbers
pub mod LineLineIntersect
pub mod LineCircleIntersect
pub mod CircleCircleIntersect
pub mod PlineSegIntersect
pub mod Workings
