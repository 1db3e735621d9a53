pub mod Eights
pub mod Differing
