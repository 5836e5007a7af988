pub mod PropertyLaws
pub mod ReferenceLaws
pub mod TypeLaws
