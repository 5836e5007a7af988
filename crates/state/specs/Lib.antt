pub mod Desks
pub mod Keeping
pub mod Next
pub mod Targets
