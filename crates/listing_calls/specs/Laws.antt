-- Laws that only proofs need: from the checks of a listing to its outcome, where the row of a pair stands, how many rows fit, and
-- how large its numbers are. A reader need not believe them: they are proved.
pub mod Entry
pub mod BoxedEntry
pub mod Complete
pub mod Counts
pub mod CheckedPaths
pub mod RefusalNumbers
pub mod Numbers
pub mod Chains
