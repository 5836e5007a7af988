pub mod PartLaws
pub mod BufferLaws
pub mod TableLaws
pub mod ScanLaws
pub mod LentLaws
pub mod RulingLaws
