-- The three sentences of the release form (request 13), over the definitions of all calls (Release, in the words of Words), and
-- their proof (Proved); and what looks true beside them and is false (TooStrong). A reader need not believe Laws.
pub mod Words
pub mod Release
pub mod Proved
pub mod TooStrong
pub mod Laws
