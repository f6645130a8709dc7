pub mod SavedReadings
pub mod VdmTurns
pub mod VdmEndings
