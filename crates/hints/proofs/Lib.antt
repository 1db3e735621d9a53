pub mod Right
pub mod Laws
pub mod Onward
