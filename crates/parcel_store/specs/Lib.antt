pub mod Store
pub mod Puts
pub mod Bounds
pub mod Numbers
pub mod Laws
pub mod Places
pub mod Onward
