-- Laws of what the code keeps.
pub mod Kept
pub mod Groups
pub mod Bodies
pub mod Stores
pub mod Scanning
pub mod Finishing
pub mod Ends
pub mod Order
pub mod RefusalNumbers
