pub mod Refusals
pub mod Identity
pub mod Monitors
pub mod Thresholds
pub mod Flags
