-- Closed enumerations, by the answer of the call that reads their word: each law is in the shape of a reader's goal.
-- Assumes nothing.
use Rattle.std.specs.Prelude.{◌≡◌, true, List, [], ℕ, Result, Ok, Err, Some, None}
use Rattle.std.specs.Prelude as std
use Rattle.std.specs.Result.{result_from_control_flow}
use Rattle.std.specs.declared.ops.ControlFlow.{ControlFlow}
use Rattle.std.specs.declared.ops.ControlFlow.TheVariants.{Continue}
use Rattle.xdr.specs.Meaning.Answer.{took, refused}
use Rattle.xdr.specs.Meaning.Combinators.{means, among}
use Rattle.xdr.specs.Meaning.Items.{word, closed}
use Rattle.xdr.specs.Meaning.Views.{view, view_found}
use Rattle.xdr.specs.Laws.Answers.{was-ok, off, word-on}
use Rattle.xdr.specs.Laws.Closed.{told, closed-refused, closed-undeclared, closed-took}
use Rattle.xdr.specs.declared.refusal.Refusal.{Refusal}
use Rattle.xdr.specs.declared.refusal.Refusal.TheVariants.{Undeclared}
use Rattle.xdr.specs.declared.answer.Took.{Took}

-- a closed enumeration
module _ {A : Type 0} (number : A → ℕ) (l : List A) (each : (a : A) → among number l (number a) ≡ means a []) (s : List ℕ) (p : ℕ) (r : Result (Took ℕ) Refusal) where
  pub tag-lost : (q : Refusal) → view r ≡ word.kind.read s p → r ≡ Err q → refused q ≡ (closed number l each).kind.read s p
  tag-lost q e f = closed-refused number l each s p (off e f)

  module _ (x : Took ℕ) (c : ControlFlow _ (Took ℕ)) (f : std.Option A) where
    pub tag-none : view r ≡ word.kind.read s p → r ≡ result_from_control_flow c → c ≡ Continue x → view_found f ≡ among number l x.value → f ≡ None → refused (Undeclared p) ≡ (closed number l each).kind.read s p
    tag-none e t h i j = closed-undeclared number l each s p (word-on s p e (was-ok t h)) (told view_found i j)

    pub tag_is : (a : A) → view r ≡ word.kind.read s p → r ≡ result_from_control_flow c → c ≡ Continue x → view_found f ≡ among number l x.value → f ≡ Some a → took a x.next true ≡ (closed number l each).kind.read s p
    tag_is a e t h i j = closed-took number l each s p (word-on s p e (was-ok t h)) (told view_found i j)
