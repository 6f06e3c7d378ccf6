-- What follows: sizes and ranges, what is owed of each kind, and facts that proofs cite.
pub mod Groups
pub mod Sizes
pub mod Words
pub mod Closed
pub mod Read
pub mod Plans
pub mod Bytes
pub mod Lengths
pub mod Unpadded
