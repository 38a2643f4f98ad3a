-- What the program `crossings` answered to a text while it took texts (TextAnswer); then what is proved of it: a moved text is
-- answered by the same bytes (SameLines).
pub mod TextAnswer
pub mod SameLines
