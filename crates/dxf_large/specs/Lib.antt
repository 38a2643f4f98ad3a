-- What an import and an export answer in the mode of large arcs (Large), and what is proved of them: when they do so (LargePromise),
-- that an import of an export gives the same path (RoundTripLarge), and that they are the old calls if no bulge is above 1
-- (SameAsOld). A reader need not believe Laws.
pub mod Large
pub mod Laws
pub mod LargePromise
pub mod RoundTripLarge
pub mod SameAsOld
pub mod Examples
