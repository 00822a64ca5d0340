pub mod Operator
pub mod Outside
pub mod Count
