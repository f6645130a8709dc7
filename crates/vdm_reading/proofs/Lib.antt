pub mod MissingLaws
pub mod WantedTurns
pub mod Told
pub mod EndingLaws
pub mod ReleaseLaws
pub mod ShownLaws
pub mod StoreLaws
pub mod SetLaws
pub mod LostLaws
pub mod GroupLaws
pub mod BankLaws
pub mod WindowLaws
pub mod QuietLaws
mod NumberedPages
