pub mod CoreForm
pub mod View
pub mod PartsBy
pub mod Parts
pub mod Forms
pub mod Program
