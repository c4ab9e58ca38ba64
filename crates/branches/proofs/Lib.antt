pub mod BranchReads
pub mod BranchShapes
