pub mod ReplyFaults
pub mod TaskStandings
pub mod AfterReply
pub mod Inverses
pub mod SavedBack
pub mod Begun
