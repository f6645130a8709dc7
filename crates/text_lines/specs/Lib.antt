pub mod Decimal
pub mod Lines
pub mod LinesLeft
pub mod Words
pub mod WordsLeft
