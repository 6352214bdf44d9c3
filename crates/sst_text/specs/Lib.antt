pub mod CallText
pub mod EntryText
pub mod Limits
pub mod LineFields
pub mod Lines
pub mod ReplyText
pub mod Taken
pub mod Texts
