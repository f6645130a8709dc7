pub mod BankPages
pub mod FrozenSteps
pub mod VdmStages
pub mod VdmAccounts
pub mod WindowStatistics
