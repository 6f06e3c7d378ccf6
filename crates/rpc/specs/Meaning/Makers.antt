-- The replies that the crate's six makers make, and the version-mismatch reply of any reading. Every reading has them, in the same bytes.
-- Assumes nothing.
use Rattle.std.specs.Prelude.{ℕ}
use Rattle.rpc.specs.Meaning.Auth.{no_auth}
use Rattle.rpc.specs.declared.reply.accept_body.{accept_body}
use Rattle.rpc.specs.declared.reply.accept_body.TheVariants.{SUCCESS, PROG_UNAVAIL, PROG_MISMATCH, PROC_UNAVAIL, GARBAGE_ARGS}
use Rattle.rpc.specs.declared.reply.rejected_reply.TheVariants.{RPC_MISMATCH}
use Rattle.rpc.specs.declared.reply.reply_body.TheVariants.{MSG_ACCEPTED, MSG_DENIED}
use Rattle.rpc.specs.declared.message.rpc_body.TheVariants.{REPLY}
use Rattle.rpc.specs.declared.message.rpc_msg.{rpc_msg}

-- a call that was accepted, with the null verifier
abbrev pub accepted_with : ℕ → accept_body → rpc_msg
accepted_with xid b = record { xid = xid; body = REPLY (MSG_ACCEPTED (record { verf = no_auth; reply_data = b })) }

abbrev pub proc_unavail : ℕ → rpc_msg
proc_unavail xid = accepted_with xid PROC_UNAVAIL

abbrev pub prog_unavail : ℕ → rpc_msg
prog_unavail xid = accepted_with xid PROG_UNAVAIL

abbrev pub prog_mismatch : ℕ → ℕ → rpc_msg
prog_mismatch xid v = accepted_with xid (PROG_MISMATCH (record { low = v; high = v }))

abbrev pub garbage_args : ℕ → rpc_msg
garbage_args xid = accepted_with xid GARBAGE_ARGS

abbrev pub success : ℕ → rpc_msg
success xid = accepted_with xid SUCCESS

-- a version of RPC that is not served: v stands for the lowest and the highest that are. The crate says 0, where RFC 5531 has those served.
abbrev pub vers_mismatch_of : (v xid : ℕ) → rpc_msg
vers_mismatch_of v xid = record { xid = xid; body = REPLY (MSG_DENIED (RPC_MISMATCH (record { low = v; high = v }))) }

abbrev pub vers_mismatch : ℕ → rpc_msg
vers_mismatch xid = vers_mismatch_of 0 xid
