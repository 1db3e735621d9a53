pub mod Desk
pub mod Services
pub mod Days
