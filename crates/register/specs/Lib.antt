pub mod Register
pub mod Laws
pub mod Opening
pub mod Room
