use Rattle.rpc.specs.Meaning.Current.{current}
use Rattle.door.specs.Meaning.Values.{accept_figures}
use Rattle.door.specs.Laws.Figures.{at-case}
use Rattle.door.proofs.current.accept_figures.Goals as goal

pub returns-in-PROG_MISMATCH : goal.returns-in-PROG_MISMATCH
returns-in-PROG_MISMATCH c = search (at-case (accept_figures current))
