pub mod Kinds
pub mod Hint
pub mod SkdupdHints
pub mod TsdupdHints
pub mod Hints
pub mod Told
pub mod Laws
pub mod Packing
