pub mod TableLaws
pub mod GatherLaws
pub mod TwiceLaws
pub mod CheckedLaws
