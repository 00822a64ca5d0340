pub mod Env
pub mod Inside
