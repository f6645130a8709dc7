pub mod LineEnds
pub mod WordCuts
pub mod Decimals
pub mod HexDigits
pub mod HexWords
mod SpacedWords
pub mod WrittenLines
pub mod WrittenWords
