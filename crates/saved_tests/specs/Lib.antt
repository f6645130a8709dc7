pub mod SavedControls
pub mod Selections
pub mod SavedTests
pub mod LinkPlans
pub mod LinkResults
pub mod LinkCapabilities
pub mod Turns
pub mod Endings
