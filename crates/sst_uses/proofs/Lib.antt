pub mod Found
pub mod Copied
pub mod Adding
