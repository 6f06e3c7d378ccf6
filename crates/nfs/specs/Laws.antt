-- What follows: sizes and ranges, what is owed of each kind, and facts that proofs cite.
pub mod Sizes
pub mod Closed
pub mod Plans
pub mod Tags
pub mod Write
pub mod Bytes
pub mod Lengths
pub mod Sources
pub mod Unpadded
-- made by tools/generate: laws
pub mod Change
pub mod Dir

-- end of laws
