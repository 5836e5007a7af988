pub mod PlaceLaws
pub mod ValueLaws
