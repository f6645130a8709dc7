mod Back
mod ToldLaws
mod TakenLaws
