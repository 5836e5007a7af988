pub mod Finding
pub mod Showing
pub mod Packing
