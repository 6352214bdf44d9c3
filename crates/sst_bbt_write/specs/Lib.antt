pub mod After
pub mod Cut
pub mod Keeps
pub mod Reasons
pub mod Written
