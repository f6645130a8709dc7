pub mod JsonDepths
pub mod JsonKeys
