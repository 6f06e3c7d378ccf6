-- made by tools/generate from crates/nfsproc/rfc/procedures.x
-- What follows for the kinds of procedures: how they are read, how many bytes they have, and what is laid of them.
-- Assumes nothing.
use Rattle.std.specs.Prelude.{◌≡◌, None, Some}
use Rattle.std.proofs.Common.{ap}
use Rattle.std.specs.Prelude as std
use Rattle.xdr.specs.Laws.One.{told}
use Rattle.xdr.specs.declared.answer.Took.{Took}
use Rattle.xdr.specs.declared.refusal.Refusal.{Refusal}
use Rattle.nfsproc.specs.Meaning.Procedures.{view_arguments, view_results}
use Rattle.nfsproc.specs.declared.procedures.Arguments.{Arguments}
use Rattle.nfsproc.specs.declared.procedures.Results.{Results}

pub arguments-told : (a b : std.Option (std.Result (Took Arguments) Refusal)) → view_arguments a ≡ view_arguments b → a ≡ b
arguments-told None None e = cc
arguments-told None (Some y) e = cc
arguments-told (Some x) None e = cc
arguments-told (Some x) (Some y) e = ap Some (told x y cc)

pub results-told : (a b : std.Option (std.Result (Took Results) Refusal)) → view_results a ≡ view_results b → a ≡ b
results-told None None e = cc
results-told None (Some y) e = cc
results-told (Some x) None e = cc
results-told (Some x) (Some y) e = ap Some (told x y cc)
