pub mod Answers
pub mod Boards
pub mod Kept
pub mod Sessions
pub mod Solved
