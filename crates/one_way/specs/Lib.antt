pub mod Arrangement
pub mod Placings
pub mod Test
pub mod Drawing
pub mod Carrier
pub mod MadeUp
