pub mod Lines
pub mod Sheets
pub mod Clearances
pub mod Halts
