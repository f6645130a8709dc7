pub mod Sentences
pub mod Numbers
