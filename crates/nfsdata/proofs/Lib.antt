-- made by tools/generate: ranges
pub mod ReadRanges
pub mod WriteRanges

-- end of ranges
