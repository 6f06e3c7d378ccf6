pub mod ReadBack
pub mod Session
