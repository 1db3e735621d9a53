pub mod Room
pub mod Numbers
pub mod Ways
pub mod Orders
pub mod Front
pub mod Rooms
