pub mod Built
pub mod Without
pub mod InMemory
