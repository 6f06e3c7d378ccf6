-- made by tools/generate: ranges
pub mod MntRanges
pub mod PortmapRanges

-- end of ranges
