pub mod Fixed
pub mod FixedAt
pub mod Groups
pub mod NumberReading
pub mod Signed
pub mod Standing
pub mod Varints
