-- What things mean: short definitions, over those of `xdr`. Read them in this order.
pub mod Step
pub mod Call
