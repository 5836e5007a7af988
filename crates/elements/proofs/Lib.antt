pub mod PutLaws
pub mod ListLaws
pub mod LoopLaws
pub mod SizeLaws
