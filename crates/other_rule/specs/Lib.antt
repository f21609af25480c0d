pub mod Reverse
pub mod Concentrated
pub mod ReverseLaws
