-- Two answers that the contract of the reader of a credential's body permits are one, as `one-read` of `xdr` says of the other readers.
-- Assumes nothing.
use Rattle.std.specs.Prelude.{◌≡◌, List, ℕ, Result}
use Rattle.xdr.specs.Laws.One.{told}
use Rattle.rpc.specs.Meaning.UnixIn.{AnswersIn}
use Rattle.xdr.specs.Meaning.Views.{view}
use Rattle.rpc.specs.Laws.UnixIn.{in_one}
use Rattle.xdr.specs.declared.piece.Piece.{Piece}
use Rattle.xdr.specs.declared.answer.Took.{Took}
use Rattle.xdr.specs.declared.refusal.Refusal.{Refusal}
use Rattle.rpc.specs.declared.auth.auth_unix.{auth_unix}

pub read-auth-unix-in-one : (s : List ℕ) (x : Piece) (r r' : Result (Took auth_unix) Refusal) → AnswersIn s x (view r)
    → AnswersIn s x (view r') → r ≡ r'
read-auth-unix-in-one s x r r' c d = told r r' (in_one s x c d)
