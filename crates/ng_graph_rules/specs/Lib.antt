pub mod CycleRules
