pub mod Listed
mod LightWeights
mod CountedApps
mod DocumentKeys
mod TableMembers
mod KeyLemmas
mod WeightAnswers
mod SaidLines
