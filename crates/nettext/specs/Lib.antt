pub mod Lines
pub mod Networks
