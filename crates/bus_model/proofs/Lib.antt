pub mod RunLaws
pub mod ScriptLaws
pub mod ScriptRuns
pub mod DirectiveWords
pub mod OneScript
pub mod OneReply
pub mod SameOperations
pub mod Histories
