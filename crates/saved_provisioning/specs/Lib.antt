pub mod SavedProvisioning
pub mod Standings
pub mod Turns
pub mod UsedLanes
