-- What follows: steps in order are one reading, and facts that callers cite.
pub mod Step
pub mod Call
