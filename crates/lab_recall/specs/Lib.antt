pub mod Faults
pub mod Tests
