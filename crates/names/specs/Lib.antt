pub mod Index
pub mod References
pub mod Chains
pub mod Rows
