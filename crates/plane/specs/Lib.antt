-- What the functions of plane answer: one file for each module of src/. A reader need not believe Laws.
pub mod Vector2
pub mod PlineVertex
pub mod Fuzzy
pub mod BaseMath
pub mod PlineSeg
pub mod Laws
