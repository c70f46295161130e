pub mod GameParts
pub mod PlainLines
pub mod Stops
