-- What follows: the promise for each kind, how long each is written, the bytes of the replies that are made, and facts that proofs cite.
pub mod One
pub mod Makers
pub mod Lengths
pub mod Sizes
pub mod ReplySizes
pub mod UnixIn
pub mod Tags
pub mod Puts
pub mod ReplyPuts
pub mod Sources
pub mod Closed
pub mod Plans
pub mod UnixKept
pub mod Stray
pub mod Current
pub mod Readings
pub mod Marked
