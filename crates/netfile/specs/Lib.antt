pub mod Records
pub mod Kinds
pub mod Files
pub mod Checks
pub mod Reads
pub mod Loads
pub mod Writes
pub mod RoundTrips
