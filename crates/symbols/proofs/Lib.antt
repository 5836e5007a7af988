pub mod ClassLaws
pub mod GapLaws
pub mod WordLaws
pub mod NumberLaws
pub mod StringLaws
pub mod LineLaws
pub mod BeginLaws
pub mod CutLaws
