pub mod SavedPorts
pub mod Shown
pub mod Known
pub mod Outcomes
pub mod Places
