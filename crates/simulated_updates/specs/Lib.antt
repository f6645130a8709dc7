pub mod Performed
pub mod Resets
pub mod Modules
pub mod OnTheBus
pub mod Seen
pub mod Undisturbed
pub mod Buses
