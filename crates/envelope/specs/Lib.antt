pub mod Envelope
pub mod Said
pub mod Laws
pub mod Ways
pub mod Written
pub mod Counted
