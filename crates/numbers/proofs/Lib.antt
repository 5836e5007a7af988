pub mod PowerLaws
pub mod SignedLaws
pub mod BoundLaws
pub mod WrittenLaws
pub mod ReadLaws
pub mod SymbolLaws
