-- The body of an LWPOLYLINE entity: its floats (Numbers), its form (Form, Order, Body), its faults (Refusal, Fault); then what is
-- proved of them. A reader need not believe Workings and Laws.
pub mod Refusal
pub mod Numbers
pub mod Form
pub mod Order
pub mod Body
pub mod Fault
pub mod Workings
pub mod Laws
pub mod Exactly
pub mod Held
pub mod Examples
