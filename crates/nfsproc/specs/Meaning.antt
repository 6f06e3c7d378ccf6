-- What things mean: which procedure has which number, to be held against section 3 of RFC 1813.
-- made by tools/generate: meanings
pub mod Procedures

-- end of meanings
