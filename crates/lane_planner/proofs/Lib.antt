mod Words
pub mod DisjointLanes
pub mod DecisionKinds
pub mod KeptLanes
pub mod GainLaws
mod CellNumbers
mod MarkBits
pub mod ReachedStates
mod Marking
mod MoreMoves
pub mod TableGains
pub mod LaterPaths
pub mod AheadPlans
pub mod ChosenPaths
pub mod FirstLaws
pub mod ReadOffs
mod ReachedEntries
mod CertifiedPlans
mod PutPieces
pub mod OneText
