-- How many bytes each fixed kind has.
-- Assumes nothing.
use Rattle.nfs.specs.Meaning.Set.{time_how}
use Rattle.xdr.specs.Laws.Fixed.{Fixed, word-fixed, seen-fixed}

pub time-how-fixed : Fixed 4 time_how
unfolding time_how
time-how-fixed = seen-fixed word-fixed _ _ _ _
