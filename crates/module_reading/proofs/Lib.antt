pub mod RegionLaws
pub mod KeptHalves
pub mod FetchSteps
pub mod FetchUnderWay
pub mod FetchTurns
pub mod HalvesLaws
pub mod FetchTold
pub mod PatientTold
