pub mod Written
pub mod Week
pub mod Same
pub mod Theorems
