pub mod RunLaws
pub mod FrameLaws
pub mod SimulateLaws
pub mod WholeLaws
pub mod AddsLaws
pub mod MergedLaws
