pub mod Answering
pub mod CommandStops
pub mod Counted
pub mod ModeNames
pub mod Finishes
pub mod LineReplies
pub mod Runs
pub mod Statuses
