mod BusReadings
mod CommandLineLemmas
pub mod FaultForms
mod FaultOrValue
mod FaultSentences
mod FoldLemmas
mod GivenWords
mod GoodTexts
mod OddLineLemmas
mod OwnAnswers
mod PartCuts
mod PlainWalks
mod PlainChoices
mod PlanningRefusals
mod ProcedureAnswers
mod SameOverBus
mod FollowedAnswers
mod SameDetails
mod SameObservables
mod SameMetrics
mod ReportAnswers
mod TextBehind
mod CheckedPlans
pub mod RemarkLemmas
