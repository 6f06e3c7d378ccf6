-- The bytes of the replies that the makers make, word by word. Their pieces are empty, so any source will do.
-- Assumes nothing.
use Rattle.std.specs.Prelude.{◌≡◌, true, List, [], ◌∷◌, ◌++◌, ℕ, length}
use Rattle.std.proofs.Math.Path.{refl}
use Rattle.xdr.specs.Meaning.Bytes.{digits}
use Rattle.xdr.specs.Meaning.Items.{number, word, opaque}
use Rattle.xdr.specs.Meaning.Formats.{piece_held}
use Rattle.xdr.specs.Meaning.Public.{output}
use Rattle.xdr.specs.Laws.Pieces.{nothing-inside}
use Rattle.rpc.specs.Meaning.Closed.{auth-flavor}
use Rattle.rpc.specs.Meaning.Auth.{opaque-auth}
use Rattle.rpc.specs.Meaning.Reading.{mismatch-info}
use Rattle.rpc.specs.Meaning.Crate.{rpc-msg}
use Rattle.rpc.specs.Meaning.Reply.{accept_body_of, accepted_reply_of, rejected_reply_of, reply_body_of}
use Rattle.rpc.specs.Meaning.Message.{rpc_body_of, rpc_msg_of}
use Rattle.rpc.specs.Meaning.Makers.{accepted_with, proc_unavail, prog_unavail, prog_mismatch, garbage_args, success, vers_mismatch_of}
use Rattle.rpc.specs.declared.reply.accept_body.{accept_body}

-- the bytes of words in order
abbrev pub in_words : List ℕ → List ℕ
in_words [] = []
in_words (n ∷ l) = digits 4 n ++ in_words l

module _ (s : List ℕ) (xid : ℕ) where
  pub proc-unavail-bytes : output rpc-msg s (proc_unavail xid) ≡ in_words (xid ∷ 1 ∷ 0 ∷ 0 ∷ 0 ∷ 3 ∷ [])
  unfolding word number opaque piece_held auth-flavor opaque-auth accept_body_of accepted_reply_of reply_body_of rpc_body_of rpc_msg_of
  proc-unavail-bytes = refl

  pub prog-unavail-bytes : output rpc-msg s (prog_unavail xid) ≡ in_words (xid ∷ 1 ∷ 0 ∷ 0 ∷ 0 ∷ 1 ∷ [])
  unfolding word number opaque piece_held auth-flavor opaque-auth accept_body_of accepted_reply_of reply_body_of rpc_body_of rpc_msg_of
  prog-unavail-bytes = refl

  pub prog-mismatch-bytes : (v : ℕ) → output rpc-msg s (prog_mismatch xid v) ≡ in_words (xid ∷ 1 ∷ 0 ∷ 0 ∷ 0 ∷ 2 ∷ v ∷ v ∷ [])
  unfolding word number opaque piece_held auth-flavor opaque-auth mismatch-info accept_body_of accepted_reply_of reply_body_of rpc_body_of rpc_msg_of
  prog-mismatch-bytes v = refl

  pub garbage-args-bytes : output rpc-msg s (garbage_args xid) ≡ in_words (xid ∷ 1 ∷ 0 ∷ 0 ∷ 0 ∷ 4 ∷ [])
  unfolding word number opaque piece_held auth-flavor opaque-auth accept_body_of accepted_reply_of reply_body_of rpc_body_of rpc_msg_of
  garbage-args-bytes = refl

  pub success-bytes : output rpc-msg s (success xid) ≡ in_words (xid ∷ 1 ∷ 0 ∷ 0 ∷ 0 ∷ 0 ∷ [])
  unfolding word number opaque piece_held auth-flavor opaque-auth accept_body_of accepted_reply_of reply_body_of rpc_body_of rpc_msg_of
  success-bytes = refl

  pub vers-mismatch-bytes : (v : ℕ) → output rpc-msg s (vers_mismatch_of v xid) ≡ in_words (xid ∷ 1 ∷ 1 ∷ 0 ∷ v ∷ v ∷ [])
  unfolding word number mismatch-info rejected_reply_of reply_body_of rpc_body_of rpc_msg_of
  vers-mismatch-bytes v = refl

  -- so each has 24 bytes, and `prog_mismatch_reply_message` 32
  pub six-words : (a b c d e : ℕ) → length (in_words (xid ∷ a ∷ b ∷ c ∷ d ∷ e ∷ [])) ≡ 24
  six-words a b c d e = refl

  pub eight-words : (a b c d e f g : ℕ) → length (in_words (xid ∷ a ∷ b ∷ c ∷ d ∷ e ∷ f ∷ g ∷ [])) ≡ 32
  eight-words a b c d e f g = refl

  -- and their pieces lie inside every source
  pub accepted-with-inside : (b : accept_body) → rpc-msg.held.inside s (accepted_with xid b) ≡ true
  unfolding piece_held opaque-auth accepted_reply_of reply_body_of rpc_body_of rpc_msg_of
  accepted-with-inside b = simp (nothing-inside s)

  pub vers-mismatch-inside : (v : ℕ) → rpc-msg.held.inside s (vers_mismatch_of v xid) ≡ true
  unfolding reply_body_of rpc_body_of rpc_msg_of
  vers-mismatch-inside v = refl
