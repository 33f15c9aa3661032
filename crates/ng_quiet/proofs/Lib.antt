pub mod OneMore
pub mod Members
pub mod ReachedLaws
pub mod UsedLaws
pub mod SkippedLaws
pub mod FieldLaws
pub mod QuietLaws
