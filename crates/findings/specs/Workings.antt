-- How the report is found with one kernel and with one test of each point. No answer's definition names it, so a reader need not
-- believe it.
pub mod Answers
pub mod Kernel
