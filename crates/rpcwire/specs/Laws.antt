-- What follows: the promise of feeding, what is written reads back, and facts that proofs cite.
pub mod Fits
pub mod Steps
pub mod Promise
pub mod Turns
pub mod Fragment
pub mod Choice
pub mod One
