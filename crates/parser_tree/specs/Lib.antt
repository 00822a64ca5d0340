pub mod Operator
pub mod Node
pub mod View
pub mod Parts
pub mod PartsBy
