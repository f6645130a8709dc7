pub mod RankedChoices
pub mod ToldStates
mod MadeChoices
mod GrownPlans
mod WalkedStates
mod FairChoices
mod LessSums
