pub mod View
pub mod Answers
pub mod Kind
pub mod Holding
