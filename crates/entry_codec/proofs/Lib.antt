pub mod FieldLaws
pub mod HeaderLaws
pub mod Headers
pub mod Spellings
