pub mod Modules
pub mod Contents
pub mod Losses
pub mod Again
pub mod Looser
pub mod SampleModules
pub mod AtTheBus
pub mod Heard
