pub mod Room
pub mod Register
