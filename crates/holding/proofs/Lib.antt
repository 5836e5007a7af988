pub mod HoldLaws
