-- What things mean: short definitions, to be held against RFC 5531 and docs/SCOPE.md. Read them in this order.
pub mod Stream
pub mod Promise
pub mod Session
pub mod Fragment
pub mod Choice
pub mod Views
