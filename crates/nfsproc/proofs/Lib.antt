-- made by tools/generate: ranges

-- end of ranges
