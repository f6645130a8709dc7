pub mod Managed
pub mod Bounds
pub mod ComingUp
pub mod Succeeds
pub mod ModuleGoals
pub mod ManagedPlans
pub mod SuitedModules
pub mod InTime
