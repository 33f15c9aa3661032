pub mod MemberRules
pub mod DeclRules
pub mod Barred
