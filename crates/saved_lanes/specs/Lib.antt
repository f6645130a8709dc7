pub mod SavedLanes
pub mod Turns
pub mod Endings
pub mod SettingsTargets
pub mod SavedSettings
pub mod SettingsTurns
pub mod SettingsEndings
