-- What follows: how each is read, how many bytes it has, and what is laid of it.
-- made by tools/generate: laws
pub mod Getattr
pub mod Lookup
pub mod Setattr

-- end of laws
