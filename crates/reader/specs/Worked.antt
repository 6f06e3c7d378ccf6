-- A MKDIR call, worked: the bytes of the call and its reading.
-- Assumes nothing.
use Rattle.std.specs.Prelude.{◌≡◌, refl, true, false, List, [], ◌∷◌, ℕ}
use Rattle.xdr.specs.Meaning.Answer.{took, refused}
use Rattle.xdr.specs.Meaning.Items.{number, word, word_pair, hyper, flag, opaque}
use Rattle.xdr.specs.Meaning.Formats.{piece_held}
use Rattle.rpc.specs.Meaning.Closed.{auth-flavor}
use Rattle.rpc.specs.Meaning.Auth.{opaque-auth}
use Rattle.rpc.specs.Meaning.Reply.{reply_body_of}
use Rattle.rpc.specs.Meaning.Message.{call-body, rpc_body_of, rpc_msg_of}
use Rattle.rpc.specs.declared.auth.auth_flavor.TheVariants.{AUTH_NULL}
use Rattle.rpc.specs.declared.message.rpc_body.TheVariants.{CALL}
use Rattle.nfsattr.specs.Meaning.Attr.{nfstime}
use Rattle.nfs.specs.Meaning.Dir.{nfs_fh, diropargs}
use Rattle.nfs.specs.Meaning.Change.{set_mode, set_uid, set_gid, set_size}
use Rattle.nfs.specs.Meaning.Set.{set_time, set-atime, set-mtime, sattr}
use Rattle.nfs.specs.declared.change.set_mode3.TheVariants as mode
use Rattle.nfs.specs.declared.change.set_uid3.TheVariants as uid
use Rattle.nfs.specs.declared.change.set_gid3.TheVariants as gid
use Rattle.nfs.specs.declared.change.set_size3.TheVariants as size
use Rattle.nfs.specs.declared.set.set_atime.TheVariants as atime
use Rattle.nfs.specs.declared.set.set_mtime.TheVariants as mtime
use Rattle.reader.specs.Meaning.Call.{mkdir}
use Rattle.xdr.specs.declared.refusal.Refusal.TheVariants.{Ended}

-- xid 7, a call of program 100003, version 3, procedure 9, AUTH_NULL twice
abbrev header : List ℕ → List ℕ
header rest =
    0 ∷ 0 ∷ 0 ∷ 7 ∷ 0 ∷ 0 ∷ 0 ∷ 0 ∷ 0 ∷ 0 ∷ 0 ∷ 2 ∷ 0 ∷ 1 ∷ 0x86 ∷ 0xA3 ∷ 0 ∷ 0 ∷ 0 ∷ 3 ∷ 0 ∷ 0 ∷ 0 ∷ 9 ∷ 0 ∷ 0 ∷ 0 ∷ 0 ∷ 0 ∷ 0 ∷ 0 ∷ 0 ∷ 0 ∷ 0 ∷ 0 ∷ 0 ∷ 0 ∷ 0 ∷ 0 ∷ 0 ∷ rest

-- in the directory of the handle 01020304, a directory named "hi"
abbrev dirops : List ℕ → List ℕ
dirops rest = 0 ∷ 0 ∷ 0 ∷ 4 ∷ 1 ∷ 2 ∷ 3 ∷ 4 ∷ 0 ∷ 0 ∷ 0 ∷ 2 ∷ 0x68 ∷ 0x69 ∷ 0 ∷ 0 ∷ rest

-- mode 0755, its flag as an old client writes it; the rest as it is
abbrev attributes : List ℕ
attributes =
    0xFF ∷ 0xFF ∷ 0xFF ∷ 0xFF ∷ 0 ∷ 0 ∷ 1 ∷ 0xED ∷ 0 ∷ 0 ∷ 0 ∷ 0 ∷ 0 ∷ 0 ∷ 0 ∷ 0 ∷ 0 ∷ 0 ∷ 0 ∷ 0 ∷ 0 ∷ 0 ∷ 0 ∷ 0 ∷ 0 ∷ 0 ∷ 0 ∷ 0 ∷ []

abbrev bytes : List ℕ
bytes = header (dirops attributes)

-- taken whole, 84 bytes, and not plain
pub taken : mkdir.held.read bytes 0
    ≡ took (
      record {
        xid = 7;
        body =
            CALL
            (record {
              rpcvers = 2;
              prog = 100003;
              vers = 3;
              proc = 9;
              cred = record { flavor = AUTH_NULL; body = record { at = 32; count = 0; clean = true } };
              verf = record { flavor = AUTH_NULL; body = record { at = 40; count = 0; clean = true } };
            });
      },
      (
        record { dir = record { «data» = record { at = 44; count = 4; clean = true } }; name = record { at = 52; count = 2; clean = true } },
        record { mode = mode.mode 493; uid = uid.Void; gid = gid.Void; size = size.Void; atime = atime.DONT_CHANGE; mtime = mtime.DONT_CHANGE },
      ),
    )
    84 false
unfolding mkdir number word word_pair hyper flag opaque piece_held auth-flavor opaque-auth reply_body_of call-body rpc_body_of rpc_msg_of nfs_fh diropargs nfstime set_mode set_uid set_gid set_size set_time set-atime set-mtime sattr
taken = refl

-- cut in the attributes: the refusal has the place of the item that is cut
pub cut : mkdir.held.read (header (dirops (0 ∷ 0 ∷ 0 ∷ 0 ∷ 0 ∷ 0 ∷ []))) 0 ≡ refused (Ended 60 2)
unfolding mkdir number word word_pair hyper flag opaque piece_held auth-flavor opaque-auth reply_body_of call-body rpc_body_of rpc_msg_of nfs_fh diropargs nfstime set_mode set_uid set_gid set_size set_time set-atime set-mtime sattr
cut = refl
