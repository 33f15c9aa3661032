pub mod Inner
pub mod Nodes
pub mod NodesLaws
pub mod Walked
pub mod OpenExpr
pub mod OpenNode
pub mod OpenStmt
