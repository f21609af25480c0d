pub mod Totals
pub mod Growth
pub mod Closing
pub mod Moments
pub mod Respects
pub mod Loops
