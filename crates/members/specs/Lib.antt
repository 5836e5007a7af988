pub mod Members
pub mod Held
pub mod Rows
