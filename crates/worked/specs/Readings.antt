-- Worked bytes in both readings (docs/SCOPE.md, The current reading).
-- Assumes nothing.
use Rattle.std.specs.Prelude.{refl, true, false, List, [], ◌∷◌}
use Rattle.xdr.specs.Meaning.Answer.{took, refused, opened}
use Rattle.xdr.specs.Meaning.Items.{number, word, opaque}
use Rattle.xdr.specs.Meaning.Formats.{piece_held}
use Rattle.xdr.specs.declared.refusal.Refusal.TheVariants.{Undeclared}
use Rattle.rpc.specs.Meaning.Closed.{auth-flavor}
use Rattle.rpc.specs.Meaning.Messages.{RpcMsg, reply, accepted, denied}
use Rattle.rpc.specs.Meaning.Auth.{opaque-auth, empty_auth}
use Rattle.rpc.specs.Meaning.Reading.{mismatch-info}
use Rattle.rpc.specs.Meaning.Reply.{auth_stat_of, accept_body_of, accepted_reply_of, rejected_reply_of, reply_body_of}
use Rattle.rpc.specs.Meaning.Message.{rpc_body_of, rpc_msg_of}
use Rattle.rpc.specs.Meaning.Crate.{rpc-msg}
use Rattle.rpc.specs.Meaning.Current.{current_rpc_msg}
use Rattle.rpc.specs.Meaning.Makers.{vers_mismatch_of}
use Rattle.rpc.specs.declared.reply.accept_body.{accept_body}
use Rattle.rpc.specs.declared.reply.accept_body.TheVariants as crate
use Rattle.rpc.specs.declared.reply.rejected_reply.{rejected_reply}
use Rattle.rpc.specs.declared.current.reply.accept_body as Current·accept_body
use Rattle.rpc.specs.declared.current.reply.accept_body.TheVariants as current
use Rattle.rpc.specs.declared.current.reply.auth_stat.TheVariants.{RPCSEC_GSS_CREDPROBLEM}
use Rattle.rpc.specs.declared.current.reply.rejected_reply as Current·rejected_reply
use Rattle.rpc.specs.declared.current.reply.rejected_reply.TheVariants.{AUTH_ERROR}
use Rattle.worked.specs.Row.{Row, reading, writing, All}

-- an accepted reply to call 42, with the null verifier
abbrev in_crate : accept_body → RpcMsg accept_body rejected_reply
in_crate b = record { xid = 42; body = reply (accepted (record { verf = empty_auth; reply_data = b })) }

abbrev in_current : Current·accept_body.accept_body → RpcMsg Current·accept_body.accept_body Current·rejected_reply.rejected_reply
in_current b = record { xid = 42; body = reply (accepted (record { verf = empty_auth; reply_data = b })) }

abbrev rows : List Row
rows =
    -- accept status 5: GARBAGE_ARGS in the crate's reading, not plain; SYSTEM_ERR in the current one
    reading rpc-msg (0 ∷ 0 ∷ 0 ∷ 0x2A ∷ 0 ∷ 0 ∷ 0 ∷ 1 ∷ 0 ∷ 0 ∷ 0 ∷ 0 ∷ 0 ∷ 0 ∷ 0 ∷ 0 ∷ 0 ∷ 0 ∷ 0 ∷ 0 ∷ 0 ∷ 0 ∷ 0 ∷ 5 ∷ [])
    (took (in_crate crate.GARBAGE_ARGS) 24 false) (0 ∷ 0 ∷ 0 ∷ 0x2A ∷ 0 ∷ 0 ∷ 0 ∷ 1 ∷ 0 ∷ 0 ∷ 0 ∷ 0 ∷ 0 ∷ 0 ∷ 0 ∷ 0 ∷ 0 ∷ 0 ∷ 0 ∷ 0 ∷ 0 ∷ 0 ∷ 0 ∷ 4 ∷ [])
    ∷ reading current_rpc_msg (0 ∷ 0 ∷ 0 ∷ 0x2A ∷ 0 ∷ 0 ∷ 0 ∷ 1 ∷ 0 ∷ 0 ∷ 0 ∷ 0 ∷ 0 ∷ 0 ∷ 0 ∷ 0 ∷ 0 ∷ 0 ∷ 0 ∷ 0 ∷ 0 ∷ 0 ∷ 0 ∷ 5 ∷ [])
    (took (in_current current.SYSTEM_ERR) 24 true) (0 ∷ 0 ∷ 0 ∷ 0x2A ∷ 0 ∷ 0 ∷ 0 ∷ 1 ∷ 0 ∷ 0 ∷ 0 ∷ 0 ∷ 0 ∷ 0 ∷ 0 ∷ 0 ∷ 0 ∷ 0 ∷ 0 ∷ 0 ∷ 0 ∷ 0 ∷ 0 ∷ 5 ∷ [])
    -- accept status 6: GARBAGE_ARGS in both
    ∷ reading rpc-msg (0 ∷ 0 ∷ 0 ∷ 0x2A ∷ 0 ∷ 0 ∷ 0 ∷ 1 ∷ 0 ∷ 0 ∷ 0 ∷ 0 ∷ 0 ∷ 0 ∷ 0 ∷ 0 ∷ 0 ∷ 0 ∷ 0 ∷ 0 ∷ 0 ∷ 0 ∷ 0 ∷ 6 ∷ [])
    (took (in_crate crate.GARBAGE_ARGS) 24 false) (0 ∷ 0 ∷ 0 ∷ 0x2A ∷ 0 ∷ 0 ∷ 0 ∷ 1 ∷ 0 ∷ 0 ∷ 0 ∷ 0 ∷ 0 ∷ 0 ∷ 0 ∷ 0 ∷ 0 ∷ 0 ∷ 0 ∷ 0 ∷ 0 ∷ 0 ∷ 0 ∷ 4 ∷ [])
    ∷ reading current_rpc_msg (0 ∷ 0 ∷ 0 ∷ 0x2A ∷ 0 ∷ 0 ∷ 0 ∷ 1 ∷ 0 ∷ 0 ∷ 0 ∷ 0 ∷ 0 ∷ 0 ∷ 0 ∷ 0 ∷ 0 ∷ 0 ∷ 0 ∷ 0 ∷ 0 ∷ 0 ∷ 0 ∷ 6 ∷ [])
    (took (in_current current.GARBAGE_ARGS) 24 false) (0 ∷ 0 ∷ 0 ∷ 0x2A ∷ 0 ∷ 0 ∷ 0 ∷ 1 ∷ 0 ∷ 0 ∷ 0 ∷ 0 ∷ 0 ∷ 0 ∷ 0 ∷ 0 ∷ 0 ∷ 0 ∷ 0 ∷ 0 ∷ 0 ∷ 0 ∷ 0 ∷ 4 ∷ [])
    -- auth_stat 13: refused in the crate's reading, at its word
    ∷ reading rpc-msg (0 ∷ 0 ∷ 0 ∷ 0x2A ∷ 0 ∷ 0 ∷ 0 ∷ 1 ∷ 0 ∷ 0 ∷ 0 ∷ 1 ∷ 0 ∷ 0 ∷ 0 ∷ 1 ∷ 0 ∷ 0 ∷ 0 ∷ 0x0D ∷ []) (refused (Undeclared 16)) []
    ∷ reading current_rpc_msg (0 ∷ 0 ∷ 0 ∷ 0x2A ∷ 0 ∷ 0 ∷ 0 ∷ 1 ∷ 0 ∷ 0 ∷ 0 ∷ 1 ∷ 0 ∷ 0 ∷ 0 ∷ 1 ∷ 0 ∷ 0 ∷ 0 ∷ 0x0D ∷ [])
    (took (record { xid = 42; body = reply (denied (AUTH_ERROR RPCSEC_GSS_CREDPROBLEM)) }) 20 true)
    (0 ∷ 0 ∷ 0 ∷ 0x2A ∷ 0 ∷ 0 ∷ 0 ∷ 1 ∷ 0 ∷ 0 ∷ 0 ∷ 1 ∷ 0 ∷ 0 ∷ 0 ∷ 1 ∷ 0 ∷ 0 ∷ 0 ∷ 0x0D ∷ [])
    -- the version-mismatch reply of a server that reads so
    ∷ writing rpc-msg (vers_mismatch_of 2 42) (0 ∷ 0 ∷ 0 ∷ 0x2A ∷ 0 ∷ 0 ∷ 0 ∷ 1 ∷ 0 ∷ 0 ∷ 0 ∷ 1 ∷ 0 ∷ 0 ∷ 0 ∷ 0 ∷ 0 ∷ 0 ∷ 0 ∷ 2 ∷ 0 ∷ 0 ∷ 0 ∷ 2 ∷ [])
    ∷ []

pub worked_readings : All rows
unfolding opened number word opaque piece_held auth-flavor opaque-auth mismatch-info auth_stat_of accept_body_of accepted_reply_of rejected_reply_of reply_body_of rpc_body_of rpc_msg_of
worked_readings = ((refl, refl), ((refl, refl), ((refl, refl), ((refl, refl), ((refl, refl), ((refl, refl), (refl, tt)))))))
