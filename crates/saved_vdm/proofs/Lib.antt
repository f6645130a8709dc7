pub mod ReadingsBack
pub mod NeedLaws
pub mod ImageLaws
pub mod HalfLaws
