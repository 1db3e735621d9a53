pub mod State
pub mod Step
pub mod Ways
pub mod Parts
