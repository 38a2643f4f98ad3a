-- Definitions that no answer's definition names: boxes read from a slice, and the next one that meets. A reader need not believe
-- them.
pub mod Stored
pub mod Next
pub mod Chord
