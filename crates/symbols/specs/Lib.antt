pub mod Cut
pub mod Begins
