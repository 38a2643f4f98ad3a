-- Answers as plain numbers: how two segments meet (ClassAndPoints), and what each of the four calls answers (Padded). Then what is
-- proved of the four calls, from SameAnswer on. A reader need not believe Laws.
pub mod ClassAndPoints
pub mod Padded
pub mod SameAnswer
pub mod Refusals
pub mod Chords
pub mod Bulges
pub mod Laws
