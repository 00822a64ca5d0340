pub mod Bank
pub mod Inside
pub mod Window
