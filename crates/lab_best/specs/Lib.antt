pub mod Values
pub mod Rows
pub mod Parts
pub mod Kept
