pub mod Lists
pub mod Standing
pub mod Records
