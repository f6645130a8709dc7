pub mod PlanText
pub mod Trace
pub mod PlanJson
pub mod FaultJson
pub mod VerdictJson
pub mod ProcedureJson
pub mod UniqueKeys
