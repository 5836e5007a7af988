pub mod StandingLaws
pub mod LevelLaws
