pub mod KeyParts
pub mod TargetOrder
pub mod Counting
pub mod Landings
pub mod Gets
pub mod Walks
pub mod Snapshots
pub mod Prefixes
