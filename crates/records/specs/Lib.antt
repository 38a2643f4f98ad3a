-- When a text line of the recorded list is right: which calls there are, how it is read, and how its answers are judged.
pub mod Calls
pub mod Names
pub mod OnFloats
pub mod OnPlane
pub mod OnCrossing
pub mod Text
