pub mod Reached
pub mod Runs
