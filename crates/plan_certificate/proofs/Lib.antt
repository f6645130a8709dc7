pub mod LaneRuns
pub mod Lists
pub mod Ranks
mod Lookups
mod EntryPlaces
mod NextEntries
mod NoFlaw
pub mod PathTakenOut
pub mod KeptPaths
pub mod Searches
pub mod ByteLanes
pub mod GoodVerdicts
pub mod Heaviest
pub mod PairedLanes
mod ActivePaths
mod CountedLanes
mod LineWords
mod FiveBytes
mod ReadLines
mod NextLines
mod Drafts
mod AddedLines
mod WholeTexts
pub mod OneAnswer
mod OneKeptList
mod Places
pub mod WrittenCertificates
mod Numbered
pub mod MoveLists
mod MoveOrder
pub mod MoveDecisions
pub mod EachMove
pub mod HeaviestMoves
mod MoveFlaws
mod RetainedMoves
