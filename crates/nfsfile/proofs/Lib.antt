-- made by tools/generate: ranges
pub mod GetattrRanges
pub mod LookupRanges
pub mod SetattrRanges

-- end of ranges
