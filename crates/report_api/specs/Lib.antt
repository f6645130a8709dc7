pub mod Answers
pub mod ReportTexts
