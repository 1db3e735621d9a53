pub mod Stage
pub mod Changing
pub mod Permitted
pub mod Kept
pub mod Parts
