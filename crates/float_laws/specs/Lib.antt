-- Laws on the kit's floats, each file using those before it: powers and rounding of whole numbers; a float as a count of its
-- format's units; a float as a signed fraction, with its order; each operation as one rounding, and what is known of a rounding;
-- whole numbers, quotients, magnitudes and sizes; all this at binary64. Branches, Tests and Stores are for the proof of any
-- function. A reader need not believe them: they are proved. Flat alone is a definition that others name.
pub mod Flat
pub mod Branches
pub mod Tests
pub mod Stores
pub mod Powers
pub mod Half
pub mod Best
pub mod Near
pub mod Count
pub mod Patterns
pub mod Signed
pub mod Order
pub mod Chains
pub mod Rounded
pub mod Roundings
pub mod Whole
pub mod Quotients
pub mod Magnitudes
pub mod Sizes
pub mod Binary64
