-- How answers of the mode of large arcs go to a caller in C: those of the pair call (HandedLarge); those of the others go as
-- their twins' in `capi`. That each promise allows one result only (OneResult); and that a refusal's word gives the fault back
-- (WordsOfCalls). A reader need not believe Laws.
pub mod HandedLarge
pub mod OneResult
pub mod WordsOfCalls
pub mod Laws
