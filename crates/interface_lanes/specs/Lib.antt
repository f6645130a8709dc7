pub mod Rows
pub mod HostInterfaces
pub mod MultiModeMedia
pub mod SingleModeMedia
pub mod LanesById
