pub mod StoreLaws
pub mod RequestLaws
pub mod AsWindow
