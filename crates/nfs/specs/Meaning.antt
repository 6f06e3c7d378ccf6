-- What things mean: what may be set, handles and names, to be held against sections 2.5 and 3.3.10 of RFC 1813. A kind has its type's name
-- without the 3. Statuses and attributes stand in the crate nfsattr.
pub mod Constants
pub mod Set
pub mod Sources
-- made by tools/generate: meanings
pub mod Change
pub mod Dir

-- end of meanings
