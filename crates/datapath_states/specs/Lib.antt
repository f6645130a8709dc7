pub mod StateCodes
pub mod StatusCodes
pub mod Names
pub mod Transitions
pub mod Runs
pub mod Lanes
