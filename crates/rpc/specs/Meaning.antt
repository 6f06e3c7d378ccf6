-- What the messages of RPC mean: short definitions, to be held against RFC 5531 and docs/SCOPE.md. Read them in this order.
pub mod Closed
pub mod Messages
pub mod Auth
pub mod UnixIn
pub mod Reading
pub mod Reply
pub mod Message
pub mod Crate
pub mod Current
pub mod Narrowed
pub mod Sources
pub mod Makers
