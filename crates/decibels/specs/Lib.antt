pub mod Levels
pub mod Dbm
