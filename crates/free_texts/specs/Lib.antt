pub mod Free
pub mod Parts
pub mod Whole
