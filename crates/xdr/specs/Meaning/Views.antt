-- What the code's own types say, in the terms of `Meaning`: each answer as an `Answer`.
-- Assumes nothing.
use Rattle.std.specs.Prelude.{Bool, true, List, [], ◌∷◌, ℕ, Result, Ok, Err, Some, None}
use Rattle.std.specs.Prelude as std
use Rattle.std.proofs.Math.Option.{Option, none, some}
use Rattle.xdr.specs.Meaning.Answer.{Answer, took, refused, Written, done, unwritten}
use Rattle.xdr.specs.Meaning.Combinators.{Seen, means, undeclared}
use Rattle.xdr.specs.declared.refusal.Refusal.{Refusal}
use Rattle.xdr.specs.declared.answer.Took.{Took}
use Rattle.xdr.specs.declared.piece.Marks.{Marks}
use Rattle.xdr.specs.declared.piece.Marks.TheVariants as marks

-- what a reader hands over
abbrev pub view : {A : Type 0} → Result (Took A) Refusal → Answer A
view (Ok x) = took x.value x.next x.plain
view (Err r) = refused r

-- what a writer does
abbrev pub view_wrote : Result ℕ Refusal → Written
view_wrote (Ok n) = done n
view_wrote (Err r) = unwritten r

-- a place that may be read from is an answer that took nothing yet
abbrev pub view_opening : ℕ → Result (Unit {0}) Refusal → Answer (Unit {0})
view_opening p (Ok u) = took u p true
view_opening p (Err r) = refused r

-- a value, where there is one
abbrev pub view_option : {A : Type 0} → std.Option A → Option A
view_option None = none
view_option (Some x) = some x

-- what a number is found to be
abbrev pub view_found : {A : Type 0} → std.Option A → Seen A
view_found None = undeclared
view_found (Some x) = means x []

abbrev pub view_marks : Marks → List Bool
view_marks marks.None = []
view_marks (marks.One a) = a ∷ []
view_marks (marks.Two a b) = a ∷ b ∷ []
