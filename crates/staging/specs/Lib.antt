pub mod Passes
pub mod Together
pub mod Ends
pub mod Few
pub mod Room
pub mod Staged
pub mod Closing
