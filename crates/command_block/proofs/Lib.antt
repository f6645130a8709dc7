pub mod Told
pub mod Known
pub mod More
pub mod Delivered
pub mod WholeBlocks
pub mod FewRounds
