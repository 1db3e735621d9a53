pub mod Compared
pub mod Yields
