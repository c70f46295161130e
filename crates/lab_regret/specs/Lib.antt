pub mod Kept
pub mod Backed
pub mod Reached
pub mod Powers
pub mod Settled
pub mod Played
pub mod Room
pub mod Views
