pub mod ModuleFamilies
pub mod CmisPages
pub mod Amounts
pub mod PaddedTexts
pub mod Reports
pub mod SharedFields
