pub mod Changes
pub mod Lies
