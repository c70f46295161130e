pub mod Names
pub mod Paths
pub mod Views
pub mod Rules
pub mod Gadgets
pub mod Factors
