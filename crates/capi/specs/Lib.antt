-- How answers go to a caller in C: those of the four crossing calls (Handed), of the pair call with findings (HandedFindings), of
-- the listings and of their pages (HandedListing), of counted listings and joins (HandedMonth), of imports and exports (HandedDxf);
-- that each promise allows one result only (OneResult); and that a refusal's word gives the fault back (WordsOfCalls). A reader
-- need not believe Laws.
pub mod Handed
pub mod HandedFindings
pub mod HandedListing
pub mod HandedMonth
pub mod HandedDxf
pub mod OneResult
pub mod WordsOfCalls
pub mod Laws
