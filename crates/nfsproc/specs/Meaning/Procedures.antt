-- made by tools/generate from crates/nfsproc/rfc/procedures.x
-- The procedures by their numbers (RFC 1813, section 3): those whose arguments and results are known here.
-- Assumes nothing.
use Rattle.std.proofs.Math.Option.{Option, none, some}
use Rattle.std.specs.Prelude.{List, ◌∷◌, [], None, Some}
use Rattle.std.specs.Prelude as std
use Rattle.xdr.specs.Meaning.Answer.{Answer}
use Rattle.xdr.specs.Meaning.Programs.{Procedure, procedure}
use Rattle.xdr.specs.Meaning.Views.{view}
use Rattle.xdr.specs.declared.answer.Took.{Took}
use Rattle.xdr.specs.declared.refusal.Refusal.{Refusal}
use Rattle.nfsdata.specs.Meaning.Read.{read_args, read_res}
use Rattle.nfsdata.specs.Meaning.Write.{write_args, write_res}
use Rattle.nfsfile.specs.Meaning.Getattr.{getattr_args, getattr_res}
use Rattle.nfsfile.specs.Meaning.Lookup.{lookup_args, lookup_res}
use Rattle.nfsfile.specs.Meaning.Setattr.{setattr_args, setattr_res}
use Rattle.nfsproc.specs.declared.procedures.Arguments.{Arguments}
use Rattle.nfsproc.specs.declared.procedures.Results.{Results}
use Rattle.nfsproc.specs.declared.procedures.Arguments.TheVariants as argumentsIs
use Rattle.nfsproc.specs.declared.procedures.Results.TheVariants as resultsIs

abbrev pub getattr_arguments : Procedure Arguments
getattr_arguments = procedure 1 getattr_args argumentsIs.GETATTR

abbrev pub setattr_arguments : Procedure Arguments
setattr_arguments = procedure 2 setattr_args argumentsIs.SETATTR

abbrev pub lookup_arguments : Procedure Arguments
lookup_arguments = procedure 3 lookup_args argumentsIs.LOOKUP

abbrev pub read_arguments : Procedure Arguments
read_arguments = procedure 6 read_args argumentsIs.READ

abbrev pub write_arguments : Procedure Arguments
write_arguments = procedure 7 write_args argumentsIs.WRITE

abbrev pub arguments_by_number : List (Procedure Arguments)
arguments_by_number = getattr_arguments ∷ setattr_arguments ∷ lookup_arguments ∷ read_arguments ∷ write_arguments ∷ []

abbrev pub view_arguments : std.Option (std.Result (Took Arguments) Refusal) → Option (Answer Arguments)
view_arguments None = none
view_arguments (Some r) = some (view r)

abbrev pub getattr_results : Procedure Results
getattr_results = procedure 1 getattr_res resultsIs.GETATTR

abbrev pub setattr_results : Procedure Results
setattr_results = procedure 2 setattr_res resultsIs.SETATTR

abbrev pub lookup_results : Procedure Results
lookup_results = procedure 3 lookup_res resultsIs.LOOKUP

abbrev pub read_results : Procedure Results
read_results = procedure 6 read_res resultsIs.READ

abbrev pub write_results : Procedure Results
write_results = procedure 7 write_res resultsIs.WRITE

abbrev pub results_by_number : List (Procedure Results)
results_by_number = getattr_results ∷ setattr_results ∷ lookup_results ∷ read_results ∷ write_results ∷ []

abbrev pub view_results : std.Option (std.Result (Took Results) Refusal) → Option (Answer Results)
view_results None = none
view_results (Some r) = some (view r)
