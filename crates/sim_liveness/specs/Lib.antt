pub mod Timing
pub mod Released
pub mod Accepted
