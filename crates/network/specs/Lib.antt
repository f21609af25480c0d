pub mod Words
pub mod Faults
pub mod Limits
pub mod Entries
pub mod Refusals
pub mod Answers
