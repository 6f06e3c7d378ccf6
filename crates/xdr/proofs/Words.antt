-- A word list that is there, by its length word.
-- Assumes nothing.
use Rattle.std.specs.Prelude.{◌≡◌, true, List, ℕ, ◌+◌, ◌-◌, ◌*◌, ◌≤◌, length, Result}
use Rattle.std.specs.Result.{result_from_control_flow}
use Rattle.std.specs.declared.ops.ControlFlow.{ControlFlow}
use Rattle.std.specs.declared.ops.ControlFlow.TheVariants.{Continue}
use Rattle.xdr.specs.Meaning.Answer.{took}
use Rattle.xdr.specs.Meaning.Items.{word}
use Rattle.xdr.specs.Meaning.Formats.{words_held}
use Rattle.xdr.specs.Meaning.Views.{view}
use Rattle.xdr.specs.Laws.Answers.{was-ok, on, words-took}
use Rattle.xdr.specs.declared.refusal.Refusal.{Refusal}
use Rattle.xdr.specs.declared.answer.Took.{Took}

module _ (s : List ℕ) (p : ℕ) (r : Result (Took ℕ) Refusal) (x : Took ℕ) (e : view r ≡ word.kind.read s p) (c : ControlFlow _ (Took ℕ)) (t : r ≡ result_from_control_flow c) (f : c ≡ Continue x) where
  pub by-words : x.value * 4 ≤ length s - x.next → took (record { at = x.next; count = x.value; clean = true }) (x.next + x.value * 4) true ≡ words_held.read s p
  by-words g = words-took s p (on e (was-ok t f)) g
