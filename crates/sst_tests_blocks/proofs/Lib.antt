pub mod BackWalks
pub mod LedBlocks
pub mod BlockWalks
pub mod IndexWalks
