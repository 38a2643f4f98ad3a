-- The decimal digits of a number (Decimal), and how many there are at most (Sizes). A reader need not believe Workings and Laws.
pub mod Decimal
pub mod Sizes
pub mod Workings
pub mod Laws
