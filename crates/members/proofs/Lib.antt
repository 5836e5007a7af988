pub mod MemberLaws
pub mod NearLaws
pub mod FillLaws
pub mod HeldLaws
pub mod OpenLaws
pub mod StateLaws
