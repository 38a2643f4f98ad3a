-- The reader, by which Exactly.antt and the code are held to the form.
pub mod Reader
