pub mod Builder
pub mod Filter
pub mod Lines
pub mod Reading
