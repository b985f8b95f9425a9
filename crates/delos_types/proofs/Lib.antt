pub mod FieldLaws
pub mod NumberLaws
