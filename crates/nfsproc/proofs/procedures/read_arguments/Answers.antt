-- made by tools/generate from crates/nfsproc/rfc/procedures.x
use Rattle.std.proofs.Common.{rules}
use Rattle.xdr.specs.Laws.Programs.{by-none}
use Rattle.nfsproc.specs.Meaning.Procedures.{arguments_by_number}
use Rattle.nfsproc.proofs.procedures.read_arguments.Goals as goal

pub returns-in_default : goal.returns-in_default
returns-in_default c = by-none arguments_by_number _ _ _ _ (search rules) c.in_default.in_default-own.rest
