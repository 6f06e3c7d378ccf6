-- What things mean: statuses and attributes, to be held against sections 2.5, 2.6 and 3.3.19 of RFC 1813. A kind has its type's name without
-- the 3.
pub mod Stat
pub mod Attr
pub mod Sizes
