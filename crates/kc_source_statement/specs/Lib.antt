pub mod Trees
pub mod Operands
pub mod Statements
pub mod Forms
pub mod Formed
