pub mod PackLaws
pub mod FairLaws
pub mod ReadLaws
pub mod DemandLaws
