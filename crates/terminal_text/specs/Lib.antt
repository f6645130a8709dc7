pub mod Amounts
pub mod Alerts
pub mod Colors
pub mod Escapes
