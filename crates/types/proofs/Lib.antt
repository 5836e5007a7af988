pub mod TypeLaws
pub mod MeaningLaws
pub mod LayLaws
pub mod RuleLaws
pub mod UnitLaws
