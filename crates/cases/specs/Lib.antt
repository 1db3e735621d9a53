pub mod Table
pub mod Cases
