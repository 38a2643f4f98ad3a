-- Laws on pages and on the loop that fills rows, which only proofs need. A reader need not believe them: they are proved.
pub mod Pages
pub mod Loop
