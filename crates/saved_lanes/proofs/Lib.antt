pub mod Back
pub mod SettingsBack
