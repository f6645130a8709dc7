pub mod ControlsBack
pub mod ProcedureBack
pub mod SelectionsBack
pub mod TestsBack
