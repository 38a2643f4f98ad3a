-- Laws that only proofs need. A reader need not believe them: they are proved.
pub mod Low
pub mod Untraced
pub mod NoLarge
pub mod RefusalNumbers
