-- Messages whose pieces lie in two sources: what they mean, and what writing them is.
-- Assumes nothing.
use Rattle.std.specs.Prelude.{◌&&◌, List, ℕ, length}
use Rattle.xdr.specs.Meaning.Answer.{Written}
use Rattle.xdr.specs.Meaning.Formats.{bytes, word_list}
use Rattle.xdr.specs.Meaning.Pieces.{is_inside, are_inside}
use Rattle.xdr.specs.Meaning.Sources.{longer, WritesFrom}
use Rattle.rpc.specs.Meaning.Messages.{AuthUnix, CallBody, call, RpcMsg}
use Rattle.rpc.specs.Meaning.Auth.{opaque-auth, auth-unix}
use Rattle.rpc.specs.Meaning.Crate.{rpc-msg}
use Rattle.rpc.specs.declared.auth.auth_unix.{auth_unix}
use Rattle.rpc.specs.declared.message.call_body.{call_body}
use Rattle.rpc.specs.declared.reply.accept_body.{accept_body}
use Rattle.rpc.specs.declared.reply.rejected_reply.{rejected_reply}

-- the name of one source, and the gids of another
abbrev pub unix_from : (names groups : List ℕ) → auth_unix → AuthUnix
unix_from s t m =
    record {
      stamp = m.stamp;
      machinename = bytes.held.mean s m.machinename;
      uid = m.uid;
      gid = m.gid;
      gids = word_list.held.mean t m.gids;
    }

abbrev pub WritesUnixFrom : (names groups : List ℕ) (m : auth_unix) (at : ℕ) (o : List ℕ) (w : Written) (o' : List ℕ) → Type 0
WritesUnixFrom s t m =
    WritesFrom auth-unix.codec (unix_from s t m) (longer (length s) (length t)) (is_inside s m.machinename && are_inside t m.gids)

-- the credential's body of one source, and the verifier's of another
abbrev pub call_from : (creds verfs : List ℕ) → call_body → CallBody
call_from s t m =
    record {
      rpcvers = m.rpcvers;
      prog = m.prog;
      vers = m.vers;
      proc = m.proc;
      cred = opaque-auth.held.mean s m.cred;
      verf = opaque-auth.held.mean t m.verf;
    }

abbrev pub message_from : (creds verfs : List ℕ) (xid : ℕ) → call_body → RpcMsg accept_body rejected_reply
message_from s t xid m = record { xid = xid; body = call (call_from s t m) }

abbrev pub WritesCallFrom : (creds verfs : List ℕ) (xid : ℕ) (m : call_body) (at : ℕ) (o : List ℕ) (w : Written) (o' : List ℕ) → Type 0
WritesCallFrom s t xid m =
    WritesFrom rpc-msg.codec (message_from s t xid m) (longer (length s) (length t))
    (opaque-auth.held.inside s m.cred && opaque-auth.held.inside t m.verf)
