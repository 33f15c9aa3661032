pub mod OneMore
pub mod LeastNext
pub mod NodeLaws
pub mod SlotLaws
