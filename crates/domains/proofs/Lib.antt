pub mod StageLaws
pub mod RowLaws
