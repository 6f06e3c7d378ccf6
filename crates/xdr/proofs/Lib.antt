pub mod Flagged
pub mod Refused
pub mod Within
pub mod Words
