-- The worked examples: the table, the proof of all its entries, the joints of request 4, and the findings
-- of request 7.
pub mod ExampleTable
pub mod Proved
pub mod Folds
pub mod Findings
