pub mod Following
pub mod Heard
pub mod Staging
pub mod Comparing
pub mod ExplicitBytes
pub mod ExplicitProcedures
pub mod LastReads
pub mod SettingsFound
