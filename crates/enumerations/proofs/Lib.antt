pub mod ListLaws
pub mod StandLaws
pub mod DeepLaws
pub mod WrittenLaws
pub mod KeptLaws
