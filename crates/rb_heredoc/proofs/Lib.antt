pub mod LinesFrom
pub mod BodySteps
