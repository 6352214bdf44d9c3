pub mod Bits
pub mod Looking
pub mod Only
pub mod Own
pub mod Powers
pub mod Told
