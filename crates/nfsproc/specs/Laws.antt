-- What follows: that the views lose nothing.
-- made by tools/generate: laws
pub mod Procedures

-- end of laws
