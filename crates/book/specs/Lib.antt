pub mod Sizes
pub mod Places
pub mod Names
pub mod Forms
