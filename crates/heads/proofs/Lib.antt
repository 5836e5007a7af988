pub mod UnitLaws
pub mod EndLaws
