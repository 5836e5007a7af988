pub mod IndexLaws
pub mod BaseLaws
pub mod ChainLaws
pub mod KnownLaws
