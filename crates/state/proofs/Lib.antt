pub mod RoomLaws
pub mod KeepLaws
pub mod JudgeLaws
pub mod SharedLaws
pub mod RowLaws
pub mod TargetLaws
pub mod DeskLaws
