pub mod Groups
pub mod Rows
pub mod Theorems
pub mod Staged
