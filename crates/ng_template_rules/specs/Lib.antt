pub mod Tables
pub mod ElementRules
pub mod TemplateRules
