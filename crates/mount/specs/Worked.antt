-- Calls to mount and port mapper, worked: their bytes, and what they call for. And export lists, as they are read and written.
-- Assumes nothing.
use Rattle.std.specs.Prelude.{◌≡◌, refl, true, false, List, [], ◌∷◌, ℕ, take, Some, None}
use Rattle.std.proofs.Math.Option.{none}
use Rattle.xdr.specs.Meaning.Answer.{took, refused, opened}
use Rattle.xdr.specs.Meaning.Items.{number, word, flag, opaque}
use Rattle.xdr.specs.Meaning.Formats.{piece_held}
use Rattle.xdr.specs.Meaning.Public.{output}
use Rattle.rpc.specs.Meaning.Closed.{auth-flavor}
use Rattle.rpc.specs.Meaning.Auth.{opaque-auth}
use Rattle.rpc.specs.Meaning.Reply.{reply_body_of}
use Rattle.rpc.specs.Meaning.Message.{call-body, rpc_body_of, rpc_msg_of}
use Rattle.rpc.specs.Meaning.Makers.{success, proc_unavail, prog_mismatch}
use Rattle.rpcwire.specs.Meaning.Choice.{by_program, by_version, decided}
use Rattle.xdr.specs.declared.refusal.Refusal.TheVariants.{Ended}
use Rattle.mount.specs.Meaning.Path.{dirpath}
use Rattle.mount.specs.Meaning.Group.{groups}
use Rattle.mount.specs.Meaning.Export.{node, nodes, exports, next_node, next-export}
use Rattle.mount.specs.Meaning.Portmap.{port_mapping}
use Rattle.mount.specs.Meaning.Ask.{refuse, reply, mnt, in_version, mount_procedure, portmap_procedure, handed_on, xid_of, due}

-- xid 7, a call of the program 100000 + p, version v, procedure f, AUTH_NULL twice
abbrev header : (p v f : ℕ) → List ℕ → List ℕ
header p v f rest =
    0 ∷ 0 ∷ 0 ∷ 7 ∷ 0 ∷ 0 ∷ 0 ∷ 0 ∷ 0 ∷ 0 ∷ 0 ∷ 2 ∷ 0 ∷ 1 ∷ 0x86 ∷ p ∷ 0 ∷ 0 ∷ 0 ∷ v ∷ 0 ∷ 0 ∷ 0 ∷ f ∷ 0 ∷ 0 ∷ 0 ∷ 0 ∷ 0 ∷ 0 ∷ 0 ∷ 0 ∷ 0 ∷ 0 ∷ 0 ∷ 0 ∷ 0 ∷ 0 ∷ 0 ∷ 0 ∷ rest

-- the path "/a"
abbrev path : List ℕ
path = 0 ∷ 0 ∷ 0 ∷ 2 ∷ 0x2F ∷ 0x61 ∷ 0 ∷ 0 ∷ []

-- MNT in version 3; in version 1, which is answered though the path is there; DUMP; NULL of the port mapper; GETPORT with one word of four
pub worked : (due (header 0xA5 3 1 path) false ≡ mnt none (record { at = 44; count = 2; clean = true }) 48)
    × (due (header 0xA5 1 1 path) false ≡ reply (prog_mismatch 7 3))
    × (due (header 0xA5 3 2 []) false ≡ reply (proc_unavail 7))
    × (due (header 0xA0 2 0 []) false ≡ reply (success 7))
    × (due (header 0xA0 2 3 (0 ∷ 1 ∷ 0x86 ∷ 0xA5 ∷ [])) false ≡ refuse (Ended 44 4))
unfolding number word opaque piece_held auth-flavor opaque-auth reply_body_of call-body rpc_body_of rpc_msg_of opened by_program by_version decided dirpath port_mapping in_version mount_procedure portmap_procedure handed_on xid_of due
worked = (refl, refl, refl, refl, refl)

-- a list of one entry: the path "/a", the group "b"; its flags are FFFFFFFF, 2 and 0, and the pad of the group ends in 1
abbrev odd : List ℕ
odd = 0xFF ∷ 0xFF ∷ 0xFF ∷ 0xFF ∷ 0 ∷ 0 ∷ 0 ∷ 2 ∷ 0x2F ∷ 0x61 ∷ 0 ∷ 0 ∷ 0 ∷ 0 ∷ 0 ∷ 2 ∷ 0 ∷ 0 ∷ 0 ∷ 1 ∷ 0x62 ∷ 0 ∷ 0 ∷ 1 ∷ 0 ∷ 0 ∷ 0 ∷ 0 ∷ 0 ∷ 0 ∷ 0 ∷ 0 ∷ []

-- it in published form
abbrev published : List ℕ
published = 0 ∷ 0 ∷ 0 ∷ 1 ∷ 0 ∷ 0 ∷ 0 ∷ 2 ∷ 0x2F ∷ 0x61 ∷ 0 ∷ 0 ∷ 0 ∷ 0 ∷ 0 ∷ 1 ∷ 0 ∷ 0 ∷ 0 ∷ 1 ∷ 0x62 ∷ 0 ∷ 0 ∷ 0 ∷ 0 ∷ 0 ∷ 0 ∷ 0 ∷ 0 ∷ 0 ∷ 0 ∷ 0 ∷ []

-- read: one entry, 32 bytes, not plain; and what it means is written in published form, which is plain. The same without its last flag
-- wants four bytes at 28. The entry at place 0, and the end at 28. It does not lie inside as a list of two
pub listed : (exports.held.read odd 0 ≡ took (record { at = 0; count = 1; clean = false }) 32 false)
    × (output exports odd (record { at = 0; count = 1; clean = false }) ≡ published)
    × (exports.held.read published 0 ≡ took (record { at = 0; count = 1; clean = true }) 32 true)
    × (exports.held.read (take 28 odd) 0 ≡ refused (Ended 28 4))
    × (next-export.held.read odd 0 ≡ took (Some (record { ex_dir = record { at = 8; count = 2; clean = true }; ex_groups = record { at = 12; count = 1; clean = false } })) 28 false)
    × (next-export.held.read odd 28 ≡ took None 32 true)
    × (exports.held.inside odd (record { at = 0; count = 2; clean = true }) ≡ false)
unfolding number word flag opaque piece_held groups node nodes exports next_node next-export
listed = (refl, refl, refl, refl, refl, refl, refl)
