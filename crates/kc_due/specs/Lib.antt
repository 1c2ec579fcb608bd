pub mod Due
pub mod Links
