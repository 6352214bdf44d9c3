pub mod Hash
pub mod Slices
pub mod Sums
