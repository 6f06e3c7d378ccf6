use Rattle.xdr.specs.Laws.Fixed.{of_size}
use Rattle.nfs.specs.Laws.Sizes.{time-how-fixed}
use Rattle.nfs.proofs.set._time_how.size.Statement.{statement}
use Rattle.nfs.proofs.set._time_how.size.Tie as tie

returns : tie.Need-returns
returns c = of_size time-how-fixed

pub size_spec : {M : Type 1} → statement M
size_spec = tie.close (tie.spec returns)
