pub mod NameLaws
pub mod GivenLaws
pub mod BondLaws
