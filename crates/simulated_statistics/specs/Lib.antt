pub mod Requests
pub mod FreezingModules
