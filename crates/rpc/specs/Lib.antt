pub mod Meaning
pub mod Laws
