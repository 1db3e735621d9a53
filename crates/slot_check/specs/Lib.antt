pub mod Same
pub mod Number
pub mod Slot
pub mod Word
