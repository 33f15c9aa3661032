pub mod Letters
pub mod Plain
pub mod PartLaws
pub mod WrittenLaws
pub mod PartAnswers
