-- What an import promises (Import), when exactly it answers what (ImportPromise); then what this is proved by. A reader need not
-- believe Workings and Laws.
pub mod Import
pub mod Workings
pub mod Laws
pub mod ImportPromise
