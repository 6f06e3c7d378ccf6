-- What things mean: arguments and results by procedure, to be held against sections 3.3.6 and 3.3.7 of RFC 1813. A kind has its type's name in
-- small letters, with a dash for the 3.
-- made by tools/generate: meanings
pub mod Read
pub mod Write

-- end of meanings
