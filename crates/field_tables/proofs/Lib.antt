pub mod TrueTests
pub mod LaneLaws
pub mod PlaceNumbers
mod PlaceWidths
mod RowPlaceLaws
mod FieldAnswers
mod EveryValue
mod EveryField
mod RowsFit
mod EntriesApart
pub mod SameValues
pub mod SameRefusals
