pub mod ScopeLaws
pub mod ExprLaws
pub mod StmtLaws
pub mod TemplateLaws
