pub mod Walks
pub mod Laws
pub mod Formed
pub mod Message
pub mod Envelope
pub mod Ending
