pub mod Codes
pub mod Names
pub mod LowPower
pub mod Transitions
pub mod Runs
pub mod Machines
