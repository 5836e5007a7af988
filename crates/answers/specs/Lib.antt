pub mod Answers
pub mod Handing
pub mod Showing
