pub mod Hashed
pub mod Linear
pub mod Slices
pub mod Turned
pub mod Vectors
pub mod Words
