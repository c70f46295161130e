pub mod Rules
pub mod ViewLaws
