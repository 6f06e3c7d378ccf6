-- auth_unix inside a credential: the body's end is the end, so bytes are wanting in the body; places are those of the whole message, and bytes
-- left over are ignored.
-- Assumes nothing.
use Rattle.std.specs.Prelude.{◌≡◌, cond, List, ℕ, ◌+◌, take}
use Rattle.xdr.specs.Meaning.Bytes.{Bytes}
use Rattle.xdr.specs.Meaning.Answer.{Answer, refused, opened}
use Rattle.xdr.specs.Meaning.Pieces.{is_inside}
use Rattle.xdr.specs.declared.piece.Piece.{Piece}
use Rattle.rpc.specs.Meaning.Auth.{auth-unix}
use Rattle.rpc.specs.declared.auth.auth_unix.{auth_unix}
use Rattle.xdr.specs.declared.refusal.Refusal.TheVariants.{Ended}

-- a body that does not lie inside is the empty part at the start, in which the first word has no bytes: refusal 1 at place 0, wanting that word
unfoldable pub unix_in : List ℕ → Piece → Answer auth_unix
unfolding is_inside
unix_in s x = cond (is_inside s x) (auth-unix.held.read (take (x.at + x.count) s) x.at) (refused (Ended 0 4))

-- what the public reader answers: refusal 3 first, and the message is bytes
pub record AnswersIn (s : List ℕ) (x : Piece) (a : Answer auth_unix) : Type 0 where
  pub is : a ≡ opened s 0 (unix_in s x)
  pub bytes : Bytes s
