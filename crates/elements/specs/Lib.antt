pub mod Noted
pub mod Ends
