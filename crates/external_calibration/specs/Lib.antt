pub mod Floats
pub mod Constants
pub mod Refusals
pub mod ExactSums
pub mod Amounts
pub mod Neutral
pub mod GreatestThousandths
