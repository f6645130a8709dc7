pub mod Numbered
pub mod RaisedFlags
pub mod RowsFit
pub mod JsonNumbers
pub mod JsonTokens
