pub mod Networks
pub mod Settling
pub mod Promises
