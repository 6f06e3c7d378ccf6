-- The worked bytes of docs/SCOPE.md that are proved as one table.
-- Assumes nothing.
use Rattle.std.specs.Prelude.{true, false, List, [], ◌∷◌, ℕ, negsuc}
use Rattle.xdr.specs.Meaning.Answer.{took, refused}
use Rattle.xdr.specs.Meaning.Items.{word, hyper, flag, int}
use Rattle.xdr.specs.Meaning.Format.{exactly}
use Rattle.xdr.specs.Meaning.Formats.{bytes, word_list}
use Rattle.rpc.specs.Meaning.Messages.{RpcMsg, call, reply, accepted}
use Rattle.rpc.specs.Meaning.Crate.{rpc-msg}
use Rattle.rpc.specs.Meaning.Makers.{vers_mismatch}
use Rattle.rpc.specs.declared.auth.auth_flavor.TheVariants.{AUTH_NULL}
use Rattle.rpc.specs.declared.reply.accept_body.{accept_body}
use Rattle.rpc.specs.declared.reply.accept_body.TheVariants.{GARBAGE_ARGS}
use Rattle.rpc.specs.declared.reply.rejected_reply.{rejected_reply}
use Rattle.nfs.specs.Meaning.Set.{set-atime, sattr}
use Rattle.nfs.specs.Meaning.Dir.{diropargs}
use Rattle.nfs.specs.declared.change.set_mode3.TheVariants as mode
use Rattle.nfs.specs.declared.change.set_uid3.TheVariants as uid
use Rattle.nfs.specs.declared.change.set_gid3.TheVariants as gid
use Rattle.nfs.specs.declared.change.set_size3.TheVariants as size
use Rattle.nfs.specs.declared.set.set_atime.TheVariants as atime
use Rattle.nfs.specs.declared.set.set_mtime.TheVariants as mtime
use Rattle.rpcwire.specs.Meaning.Stream.{stand, more, complete, fresh, in_fragment, halted}
use Rattle.rpcwire.specs.Meaning.Stream as stream
use Rattle.worked.specs.Row.{Row, reading, holding, writing, feeding}
use Rattle.xdr.specs.declared.refusal.Refusal.TheVariants.{Ended, Undeclared, Overrun}

abbrev hello : List ℕ
hello = 0x68 ∷ 0x65 ∷ 0x6C ∷ 0x6C ∷ 0x6F ∷ []

-- a call of zeros, with nothing in it
abbrev zero_call : RpcMsg accept_body rejected_reply
zero_call =
    record {
      xid = 42;
      body =
          call
          (record {
            rpcvers = 0;
            prog = 0;
            vers = 0;
            proc = 0;
            cred = record { flavor = AUTH_NULL; body = [] };
            verf = record { flavor = AUTH_NULL; body = [] };
          });
    }

abbrev garbage : RpcMsg accept_body rejected_reply
garbage =
    record {
      xid = 42;
      body = reply (accepted (record { verf = record { flavor = AUTH_NULL; body = [] }; reply_data = GARBAGE_ARGS }));
    }

abbrev pub rows : List Row
rows =
    -- a flag of 256 is true, not plain, and rewritten as 1
    reading (exactly flag) (0 ∷ 0 ∷ 1 ∷ 0 ∷ []) (took true 4 false) (0 ∷ 0 ∷ 0 ∷ 1 ∷ [])
    -- five opaque bytes and their padding
    ∷ reading bytes (0 ∷ 0 ∷ 0 ∷ 5 ∷ 0x68 ∷ 0x65 ∷ 0x6C ∷ 0x6C ∷ 0x6F ∷ 0 ∷ 0 ∷ 0 ∷ []) (took hello 12 true)
    (0 ∷ 0 ∷ 0 ∷ 5 ∷ 0x68 ∷ 0x65 ∷ 0x6C ∷ 0x6C ∷ 0x6F ∷ 0 ∷ 0 ∷ 0 ∷ [])
    -- the same message, with a last byte of 1: not plain
    ∷ reading bytes (0 ∷ 0 ∷ 0 ∷ 5 ∷ 0x68 ∷ 0x65 ∷ 0x6C ∷ 0x6C ∷ 0x6F ∷ 0 ∷ 0 ∷ 1 ∷ []) (took hello 12 false)
    (0 ∷ 0 ∷ 0 ∷ 5 ∷ 0x68 ∷ 0x65 ∷ 0x6C ∷ 0x6C ∷ 0x6F ∷ 0 ∷ 0 ∷ 0 ∷ [])
    -- no bytes
    ∷ reading bytes (0 ∷ 0 ∷ 0 ∷ 0 ∷ []) (took [] 4 true) (0 ∷ 0 ∷ 0 ∷ 0 ∷ [])
    -- a pad byte is missing, and wanting
    ∷ reading bytes (0 ∷ 0 ∷ 0 ∷ 1 ∷ 0xAA ∷ 0 ∷ 0 ∷ []) (refused (Ended 0 1)) []
    -- a word of three bytes wants one, a hyper of none wants eight
    ∷ reading (exactly word) (0 ∷ 0 ∷ 0 ∷ []) (refused (Ended 0 1)) []
    ∷ reading (exactly hyper) [] (refused (Ended 0 8)) []
    -- three words, of which six bytes are there, want six; a length word of two bytes wants its own rest
    ∷ reading word_list (0 ∷ 0 ∷ 0 ∷ 3 ∷ 0 ∷ 0 ∷ 0 ∷ 1 ∷ 0 ∷ 0 ∷ []) (refused (Ended 0 6)) []
    ∷ reading bytes (0 ∷ 0 ∷ []) (refused (Ended 0 2)) []
    -- a length of FFFFFFFF does not wrap: with the pad, 2 ^ 32 bytes are wanting
    ∷ reading bytes (0xFF ∷ 0xFF ∷ 0xFF ∷ 0xFF ∷ []) (refused (Ended 0 4294967296)) []
    -- two words, and where they lie: the count of the piece is in words
    ∷ reading word_list (0 ∷ 0 ∷ 0 ∷ 2 ∷ 0 ∷ 0 ∷ 0 ∷ 7 ∷ 0xFF ∷ 0xFF ∷ 0xFF ∷ 0xFF ∷ []) (took (7 ∷ 4294967295 ∷ []) 12 true)
    (0 ∷ 0 ∷ 0 ∷ 2 ∷ 0 ∷ 0 ∷ 0 ∷ 7 ∷ 0xFF ∷ 0xFF ∷ 0xFF ∷ 0xFF ∷ [])
    ∷ holding word_list (0 ∷ 0 ∷ 0 ∷ 2 ∷ 0 ∷ 0 ∷ 0 ∷ 7 ∷ 0xFF ∷ 0xFF ∷ 0xFF ∷ 0xFF ∷ []) 0 (took (record { at = 4; count = 2; clean = true }) 12 true)
    -- a handle of one byte and a name of two, behind a word that belongs to something else
    ∷ holding diropargs (9 ∷ 9 ∷ 9 ∷ 9 ∷ 0 ∷ 0 ∷ 0 ∷ 1 ∷ 0xAA ∷ 0 ∷ 0 ∷ 0 ∷ 0 ∷ 0 ∷ 0 ∷ 2 ∷ 0x68 ∷ 0x69 ∷ 0 ∷ 0 ∷ []) 4
    (took (record { dir = record { «data» = record { at = 8; count = 1; clean = true } }; name = record { at = 16; count = 2; clean = true } }) 20 true)
    -- two's complement: -1, and the least number
    ∷ reading (exactly int) (0xFF ∷ 0xFF ∷ 0xFF ∷ 0xFF ∷ []) (took (negsuc 0) 4 true) (0xFF ∷ 0xFF ∷ 0xFF ∷ 0xFF ∷ [])
    ∷ reading (exactly int) (0x80 ∷ 0 ∷ 0 ∷ 0 ∷ []) (took (negsuc 2147483647) 4 true) (0x80 ∷ 0 ∷ 0 ∷ 0 ∷ [])
    -- an undeclared tag of set_atime
    ∷ reading (exactly set-atime) (0 ∷ 0 ∷ 0 ∷ 3 ∷ []) (refused (Undeclared 0)) []
    -- the truncation that was lost: the size set to 0 by a flag of FFFFFFFF
    ∷ reading (exactly sattr)
    (0 ∷ 0 ∷ 0 ∷ 0 ∷ 0 ∷ 0 ∷ 0 ∷ 0 ∷ 0 ∷ 0 ∷ 0 ∷ 0 ∷ 0xFF ∷ 0xFF ∷ 0xFF ∷ 0xFF ∷ 0 ∷ 0 ∷ 0 ∷ 0 ∷ 0 ∷ 0 ∷ 0 ∷ 0 ∷ 0 ∷ 0 ∷ 0 ∷ 0 ∷ 0 ∷ 0 ∷ 0 ∷ 0 ∷ [])
    (took
    (record { mode = mode.Void; uid = uid.Void; gid = gid.Void; size = size.size 0; atime = atime.DONT_CHANGE; mtime = mtime.DONT_CHANGE })
    32
    false)
    (0 ∷ 0 ∷ 0 ∷ 0 ∷ 0 ∷ 0 ∷ 0 ∷ 0 ∷ 0 ∷ 0 ∷ 0 ∷ 0 ∷ 0 ∷ 0 ∷ 0 ∷ 1 ∷ 0 ∷ 0 ∷ 0 ∷ 0 ∷ 0 ∷ 0 ∷ 0 ∷ 0 ∷ 0 ∷ 0 ∷ 0 ∷ 0 ∷ 0 ∷ 0 ∷ 0 ∷ 0 ∷ [])
    -- rpc_body tag 2: a CALL of zeros, and nothing more is read
    ∷ reading rpc-msg (0 ∷ 0 ∷ 0 ∷ 0x2A ∷ 0 ∷ 0 ∷ 0 ∷ 2 ∷ []) (took zero_call 8 false)
    (0 ∷ 0 ∷ 0 ∷ 0x2A ∷ 0 ∷ 0 ∷ 0 ∷ 0 ∷ 0 ∷ 0 ∷ 0 ∷ 0 ∷ 0 ∷ 0 ∷ 0 ∷ 0 ∷ 0 ∷ 0 ∷ 0 ∷ 0 ∷ 0 ∷ 0 ∷ 0 ∷ 0 ∷ 0 ∷ 0 ∷ 0 ∷ 0 ∷ 0 ∷ 0 ∷ 0 ∷ 0 ∷ 0 ∷ 0 ∷ 0 ∷ 0 ∷ 0 ∷ 0 ∷ 0 ∷ 0 ∷ [])
    -- accept_body tag 5: GARBAGE_ARGS
    ∷ reading rpc-msg (0 ∷ 0 ∷ 0 ∷ 0x2A ∷ 0 ∷ 0 ∷ 0 ∷ 1 ∷ 0 ∷ 0 ∷ 0 ∷ 0 ∷ 0 ∷ 0 ∷ 0 ∷ 0 ∷ 0 ∷ 0 ∷ 0 ∷ 0 ∷ 0 ∷ 0 ∷ 0 ∷ 5 ∷ []) (took garbage 24 false)
    (0 ∷ 0 ∷ 0 ∷ 0x2A ∷ 0 ∷ 0 ∷ 0 ∷ 1 ∷ 0 ∷ 0 ∷ 0 ∷ 0 ∷ 0 ∷ 0 ∷ 0 ∷ 0 ∷ 0 ∷ 0 ∷ 0 ∷ 0 ∷ 0 ∷ 0 ∷ 0 ∷ 4 ∷ [])
    -- rpc_vers_mismatch(42)
    ∷ writing rpc-msg (vers_mismatch 42) (0 ∷ 0 ∷ 0 ∷ 0x2A ∷ 0 ∷ 0 ∷ 0 ∷ 1 ∷ 0 ∷ 0 ∷ 0 ∷ 1 ∷ 0 ∷ 0 ∷ 0 ∷ 0 ∷ 0 ∷ 0 ∷ 0 ∷ 0 ∷ 0 ∷ 0 ∷ 0 ∷ 0 ∷ [])
    -- an empty fragment, then a last one
    ∷ feeding 3 (0 ∷ 0 ∷ 0 ∷ 0 ∷ 0x80 ∷ 0 ∷ 0 ∷ 2 ∷ 0xAB ∷ 0xCD ∷ []) (7 ∷ 7 ∷ 7 ∷ []) (stand (complete 2 (fresh 3) 10) (0xAB ∷ 0xCD ∷ 7 ∷ []))
    -- an empty record
    ∷ feeding 3 (0x80 ∷ 0 ∷ 0 ∷ 0 ∷ []) (7 ∷ 7 ∷ 7 ∷ []) (stand (complete 0 (fresh 3) 4) (7 ∷ 7 ∷ 7 ∷ []))
    -- a fragment that would pass the end of a buffer of 3, and one that fits in 4
    ∷ feeding 3 (0x80 ∷ 0 ∷ 0 ∷ 4 ∷ []) (7 ∷ 7 ∷ 7 ∷ []) (stand (stream.refused Overrun (halted 3 0) 4) (7 ∷ 7 ∷ 7 ∷ []))
    ∷ feeding 4 (0x80 ∷ 0 ∷ 0 ∷ 4 ∷ []) (7 ∷ 7 ∷ 7 ∷ 7 ∷ []) (stand (more (in_fragment 4 0 4 true) 4) (7 ∷ 7 ∷ 7 ∷ 7 ∷ []))
    ∷ []
