pub mod Tests
pub mod Passed
pub mod Marks
pub mod Ways
pub mod Orders
