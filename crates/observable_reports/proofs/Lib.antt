mod StatisticsRead
pub mod ExactTexts
pub mod JsonDepths
pub mod ListedInstances
mod DetailDepths
pub mod UniqueInstances
pub mod WordNumbers
pub mod WindowStatistics
mod BankReadings
mod ObservingRuns
pub mod WholeStatistics
mod SameMonitors
mod OwnHalves
pub mod WholeObservables
pub mod ObservingFaults
