-- Laws that only proofs need. A reader need not believe them: they are proved.
pub mod Bytes
pub mod Complete
pub mod Sound
pub mod Put
pub mod Said
