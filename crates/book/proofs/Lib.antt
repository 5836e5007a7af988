pub mod SizeLaws
pub mod FormLaws
pub mod StandLaws
