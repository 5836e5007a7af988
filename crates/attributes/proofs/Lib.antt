pub mod StageLaws
pub mod HeadLaws
pub mod EndLaws
pub mod WholeLaws
