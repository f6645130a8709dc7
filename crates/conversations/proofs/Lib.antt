pub mod BusRuns
pub mod RunTold
pub mod PausingLaws
pub mod OnPageLaws
pub mod InPiecesLaws
pub mod DoubtLaws
pub mod WatchingLaws
pub mod PatientLaws
