-- What the code's own types say, in the terms of `Meaning`.
-- Assumes nothing.
use Rattle.std.specs.Prelude.{Result, Ok, Err}
use Rattle.xdr.specs.Meaning.Views.{view_option}
use Rattle.xdr.specs.declared.refusal.Refusal.{Refusal}
use Rattle.rpcwire.specs.Meaning.Stream.{Said, more, complete, refused, Made, made, unmade}
use Rattle.rpcwire.specs.Meaning.Choice.{Chosen, turned_away, replied, silent, handed}
use Rattle.rpcwire.specs.declared.assembler.Assembler.{Assembler}
use Rattle.rpcwire.specs.declared.assembler.Fed.{Fed}
use Rattle.rpcwire.specs.declared.choice.Choice.{Choice}

abbrev pub view_made : Result Assembler Refusal → Made
view_made (Ok s) = made s
view_made (Err r) = unmade r

abbrev pub view_fed : Fed → Said
view_fed (Fed.Refused r s u) = refused r s u
view_fed (Fed.More s u) = more s u
view_fed (Fed.Complete n s u) = complete n s u

abbrev pub view_choice : Choice → Chosen
view_choice (Choice.Refused r) = turned_away r
view_choice (Choice.Replied n) = replied n
view_choice Choice.Silent = silent
view_choice (Choice.HandOver p v f c n) = handed p v f (view_option c) n
