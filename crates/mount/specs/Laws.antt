-- What follows: how each is read, how many bytes it has, and what is laid of it.
pub mod Path
pub mod Next
pub mod Group
pub mod Export
pub mod Steps
pub mod Ask
pub mod One
pub mod Pairs
pub mod Same
pub mod Marked
-- made by tools/generate: laws
pub mod Mnt
pub mod Portmap

-- end of laws
