pub mod Sessions
pub mod Printed
