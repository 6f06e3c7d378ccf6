-- The kinds by their numbers, in the order of the answering program's list.
-- Assumes nothing.
use Rattle.std.specs.Prelude.{◌≡◌, List, [], ◌∷◌, ◌++◌, ℕ, zero, suc}
use Rattle.xdr.specs.Meaning.Format.{Branch, branch, exactly}
-- made by tools/generate: meanings
use Rattle.xdr.specs.Meaning.Items.{flag, int, long, word, hyper}
use Rattle.xdr.specs.Meaning.Formats.{eight_bytes, bytes, word_list}
use Rattle.rpc.specs.Meaning.Closed.{msg-type, reply-stat, reject-stat, auth-flavor}
use Rattle.rpc.specs.Meaning.Crate.{accept-stat, auth-stat, rpc-msg, rpc-body, reply-body, accepted-reply, accept-body, rejected-reply}
use Rattle.rpc.specs.Meaning.Auth.{auth-unix, opaque-auth}
use Rattle.rpc.specs.Meaning.Message.{call-body}
use Rattle.rpc.specs.Meaning.Reading.{mismatch-info}
use Rattle.rpc.specs.Meaning.Current.{current_accept_stat, current_auth_stat, current_accept_body, current_accepted_reply, current_rejected_reply, current_reply_body, current_rpc_body, current_rpc_msg}
use Rattle.nfsattr.specs.Meaning.Stat.{nfsstat}
use Rattle.nfsattr.specs.Meaning.Attr.{ftype, specdata, nfstime, fattr, fsinfo, wcc-attr, pre-op-attr, post-op-attr, wcc-data}
use Rattle.nfs.specs.Meaning.Set.{time_how, set-atime, set-mtime, sattr}
use Rattle.nfs.specs.Meaning.Dir.{nfs_fh, post_op_fh, diropargs, symlinkdata}
use Rattle.nfs.specs.Meaning.Change.{set_mode, set_uid, set_gid, set_size}
use Rattle.nfsfile.specs.Meaning.Setattr.{sattrguard, setattr_args, setattr_res}
use Rattle.nfsfile.specs.Meaning.Getattr.{getattr_args, getattr_res}
use Rattle.nfsfile.specs.Meaning.Lookup.{lookup_args, lookup_res}
use Rattle.nfsdata.specs.Meaning.Write.{stable-how, write_args, write_res}
use Rattle.nfsdata.specs.Meaning.Read.{read_args, read_res}
use Rattle.mount.specs.Meaning.Path.{dirpath}
use Rattle.mount.specs.Meaning.Mnt.{mountstat, mountres}
use Rattle.mount.specs.Meaning.Export.{exports}
use Rattle.mount.specs.Meaning.Portmap.{port_mapping}
-- end of meanings
use Rattle.door.specs.Meaning.Copy.{Copy, unknown, Copies}

-- made by tools/generate: lists
-- the items
abbrev pub item_kinds : List Branch
item_kinds =
    branch (exactly flag)
    ∷ branch (exactly int)
    ∷ branch (exactly long)
    ∷ branch (exactly word)
    ∷ branch (exactly hyper)
    ∷ branch eight_bytes
    ∷ branch bytes
    ∷ branch bytes
    ∷ branch word_list
    ∷ []

-- the closed enumerations of RFC 5531 and RFC 1813
abbrev pub closed_kinds : List Branch
closed_kinds =
    branch (exactly msg-type)
    ∷ branch (exactly reply-stat)
    ∷ branch (exactly accept-stat)
    ∷ branch (exactly reject-stat)
    ∷ branch (exactly auth-stat)
    ∷ branch (exactly auth-flavor)
    ∷ branch (exactly time_how)
    ∷ branch (exactly nfsstat)
    ∷ branch (exactly ftype)
    ∷ []

-- the messages of RFC 5531
abbrev pub message_kinds : List Branch
message_kinds =
    branch auth-unix
    ∷ branch opaque-auth
    ∷ branch rpc-msg
    ∷ branch rpc-body
    ∷ branch call-body
    ∷ branch reply-body
    ∷ branch accepted-reply
    ∷ branch (exactly accept-body)
    ∷ branch (exactly rejected-reply)
    ∷ branch (exactly mismatch-info)
    ∷ []

-- attributes and what holds them (RFC 1813)
abbrev pub attribute_kinds : List Branch
attribute_kinds =
    branch (exactly specdata)
    ∷ branch nfs_fh
    ∷ branch (exactly nfstime)
    ∷ branch (exactly fattr)
    ∷ branch (exactly fsinfo)
    ∷ branch (exactly wcc-attr)
    ∷ branch (exactly pre-op-attr)
    ∷ branch (exactly post-op-attr)
    ∷ branch (exactly wcc-data)
    ∷ branch post_op_fh
    ∷ []

-- what a call changes, and names (RFC 1813)
abbrev pub change_kinds : List Branch
change_kinds =
    branch (exactly set_mode)
    ∷ branch (exactly set_uid)
    ∷ branch (exactly set_gid)
    ∷ branch (exactly set_size)
    ∷ branch (exactly set-atime)
    ∷ branch (exactly set-mtime)
    ∷ branch (exactly sattr)
    ∷ branch diropargs
    ∷ branch symlinkdata
    ∷ []

-- arguments and results of procedures (RFC 1813)
abbrev pub procedure_kinds : List Branch
procedure_kinds =
    branch (exactly stable-how)
    ∷ branch (exactly sattrguard)
    ∷ branch getattr_args
    ∷ branch getattr_res
    ∷ branch setattr_args
    ∷ branch setattr_res
    ∷ branch lookup_args
    ∷ branch lookup_res
    ∷ branch read_args
    ∷ branch read_res
    ∷ branch write_args
    ∷ branch write_res
    ∷ []

-- replies in the current reading (RFC 5531)
abbrev pub current_kinds : List Branch
current_kinds =
    branch (exactly current_accept_stat)
    ∷ branch (exactly current_auth_stat)
    ∷ branch (exactly current_accept_body)
    ∷ branch current_accepted_reply
    ∷ branch (exactly current_rejected_reply)
    ∷ branch current_reply_body
    ∷ branch current_rpc_body
    ∷ branch current_rpc_msg
    ∷ []

-- the mount protocol (RFC 1813, appendix I) and the port mapper (RFC 1057)
abbrev pub mount_kinds : List Branch
mount_kinds =
    branch dirpath
    ∷ branch (exactly mountstat)
    ∷ branch mountres
    ∷ branch exports
    ∷ branch (exactly port_mapping)
    ∷ []

abbrev pub kinds : List Branch
kinds = item_kinds ++ closed_kinds ++ message_kinds ++ attribute_kinds ++ change_kinds ++ procedure_kinds ++ current_kinds ++ mount_kinds

-- end of lists

-- the message of the k-th kind of a list, copied; past the list's end the kind is unknown
abbrev pub CopiesOf : List Branch → ℕ → List ℕ → ℕ → ℕ → List ℕ → Copy → List ℕ → Type 0
CopiesOf [] k s at start o c o' = (c ≡ unknown) × (o' ≡ o)
CopiesOf (b ∷ l) zero s at start o c o' = Copies b.format s at start o c o'
CopiesOf (b ∷ l) (suc k) s at start o c o' = CopiesOf l k s at start o c o'

pub record CopiesIn (l : List Branch) (k : ℕ) (s : List ℕ) (at start : ℕ) (o : List ℕ) (c : Copy) (o' : List ℕ) : Type 0 where
  pub copies : CopiesOf l k s at start o c o'
