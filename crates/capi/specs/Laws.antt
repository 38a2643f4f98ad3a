-- Laws that only proofs need, here and in `capi_large`. A reader need not believe them: they are proved.
pub mod ListingEnds
pub mod MonthEnds
pub mod DxfEnds
