-- made by tools/generate from crates/nfsproc/rfc/procedures.x
use Rattle.std.specs.Prelude.{refl}
use Rattle.xdr.specs.Laws.Programs.{for-lost, for-took}
use Rattle.xdr.specs.Laws.Answers.{exit}
use Rattle.nfsproc.specs.Meaning.Procedures.{read_results}
use Rattle.nfsproc.proofs.procedures.results_of_read.Goals as goal

pub returns-in_err-v : goal.returns-in_err-v
returns-in_err-v c = rw (exit c.from_residual.ensures.1) (for-lost read_results (λ a. a) _ _ _ _ _ c.in_err-v.ensures refl refl)

pub returns : goal.returns
returns c = for-took read_results (λ a. a) _ _ _ _ _ _ _ c.in_ok-v.ensures refl refl
