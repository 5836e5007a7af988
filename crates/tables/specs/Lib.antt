pub mod Tables
pub mod Doubling
