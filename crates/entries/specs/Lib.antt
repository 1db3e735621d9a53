pub mod Release
pub mod Withdraw
pub mod Released
pub mod Withdrawing
pub mod Rooms
