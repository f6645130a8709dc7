pub mod Banks
pub mod Endings
pub mod SavedDeliveries
pub mod SavedUpdates
pub mod Works
