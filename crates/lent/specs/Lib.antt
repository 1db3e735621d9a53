pub mod Lent
pub mod Laws
pub mod Answer
