-- What the marks tell of each kind of the table: in every answer of a public reader they are all clean exactly if no padding that it read is dirty;
-- without odd flags and stray tags, that is exactly if the reading is plain.
-- Assumes nothing.
use Rattle.std.specs.Prelude.{List, [], ◌∷◌}
use Rattle.xdr.specs.Meaning.Format.{Branch}
use Rattle.xdr.specs.Meaning.Marks.{Marked, MarksTell}
use Rattle.xdr.specs.Laws.Marked.{plain-marked, marks-tell}
-- made by tools/generate: uses
use Rattle.xdr.specs.Laws.Unpadded.{flag-unpadded, int-unpadded, long-unpadded, word-unpadded, hyper-unpadded}
use Rattle.xdr.specs.Laws.Marked.{eight-marked, bytes-marked, words-marked}
use Rattle.rpc.specs.Laws.Marked.{msg-type-unpadded, reply-stat-unpadded, crate-accept-stat-unpadded, reject-stat-unpadded, crate-auth-stat-unpadded, auth-flavor-unpadded, auth-unix-marked, opaque-auth-marked, crate-rpc-msg-marked, crate-rpc-body-marked, call-body-marked, crate-reply-body-marked, crate-accepted-reply-marked, crate-accept-body-unpadded, crate-rejected-reply-unpadded, mismatch-info-unpadded, current-accept-stat-unpadded, current-auth-stat-unpadded, current-accept-body-unpadded, current-accepted-reply-marked, current-rejected-reply-unpadded, current-reply-body-marked, current-rpc-body-marked, current-rpc-msg-marked}
use Rattle.nfsattr.specs.Laws.Unpadded.{nfsstat-unpadded, ftype-unpadded, specdata-unpadded, nfstime-unpadded, fattr-unpadded, fsinfo-unpadded, wcc-attr-unpadded, pre-op-attr-unpadded, post-op-attr-unpadded, wcc-data-unpadded}
use Rattle.nfs.specs.Laws.Unpadded.{time-how-unpadded, set-atime-unpadded, set-mtime-unpadded, sattr-unpadded}
use Rattle.nfs.specs.Laws.Dir.{nfs-fh-marked, post-op-fh-marked, diropargs-marked, symlinkdata-marked}
use Rattle.nfs.specs.Laws.Change.{set-mode-unpadded, set-uid-unpadded, set-gid-unpadded, set-size-unpadded}
use Rattle.nfsfile.specs.Laws.Setattr.{sattrguard-unpadded, setattr-args-marked, setattr-res-marked}
use Rattle.nfsfile.specs.Laws.Getattr.{getattr-args-marked, getattr-res-marked}
use Rattle.nfsfile.specs.Laws.Lookup.{lookup-args-marked, lookup-res-marked}
use Rattle.nfsdata.specs.Laws.Write.{stable-how-unpadded, write-args-marked, write-res-marked}
use Rattle.nfsdata.specs.Laws.Read.{read-args-marked, read-res-marked}
use Rattle.mount.specs.Laws.Marked.{dirpath-marked, exports-marked}
use Rattle.mount.specs.Laws.Mnt.{mountstat-unpadded, mountres-marked}
use Rattle.mount.specs.Laws.Portmap.{port-mapping-unpadded}
-- end of uses
use Rattle.door.specs.Meaning.Kinds.{kinds}

abbrev EachMarked : List Branch → Type 0
EachMarked [] = Unit {0}
EachMarked (b ∷ l) = Marked b.format.held × EachMarked l

infixr 15 ◌also◌
abbrev ◌also◌ : {A B : Type 0} → A → B → A × B
a also b = (a, b)

-- made by tools/generate: every_marked
every_marked : EachMarked kinds
every_marked =
    plain-marked flag-unpadded
    also plain-marked int-unpadded
    also plain-marked long-unpadded
    also plain-marked word-unpadded
    also plain-marked hyper-unpadded
    also eight-marked
    also bytes-marked
    also bytes-marked
    also words-marked
    also plain-marked msg-type-unpadded
    also plain-marked reply-stat-unpadded
    also plain-marked crate-accept-stat-unpadded
    also plain-marked reject-stat-unpadded
    also plain-marked crate-auth-stat-unpadded
    also plain-marked auth-flavor-unpadded
    also plain-marked time-how-unpadded
    also plain-marked nfsstat-unpadded
    also plain-marked ftype-unpadded
    also auth-unix-marked
    also opaque-auth-marked
    also crate-rpc-msg-marked
    also crate-rpc-body-marked
    also call-body-marked
    also crate-reply-body-marked
    also crate-accepted-reply-marked
    also plain-marked crate-accept-body-unpadded
    also plain-marked crate-rejected-reply-unpadded
    also plain-marked mismatch-info-unpadded
    also plain-marked specdata-unpadded
    also nfs-fh-marked
    also plain-marked nfstime-unpadded
    also plain-marked fattr-unpadded
    also plain-marked fsinfo-unpadded
    also plain-marked wcc-attr-unpadded
    also plain-marked pre-op-attr-unpadded
    also plain-marked post-op-attr-unpadded
    also plain-marked wcc-data-unpadded
    also post-op-fh-marked
    also plain-marked set-mode-unpadded
    also plain-marked set-uid-unpadded
    also plain-marked set-gid-unpadded
    also plain-marked set-size-unpadded
    also plain-marked set-atime-unpadded
    also plain-marked set-mtime-unpadded
    also plain-marked sattr-unpadded
    also diropargs-marked
    also symlinkdata-marked
    also plain-marked stable-how-unpadded
    also plain-marked sattrguard-unpadded
    also getattr-args-marked
    also getattr-res-marked
    also setattr-args-marked
    also setattr-res-marked
    also lookup-args-marked
    also lookup-res-marked
    also read-args-marked
    also read-res-marked
    also write-args-marked
    also write-res-marked
    also plain-marked current-accept-stat-unpadded
    also plain-marked current-auth-stat-unpadded
    also plain-marked current-accept-body-unpadded
    also current-accepted-reply-marked
    also plain-marked current-rejected-reply-unpadded
    also current-reply-body-marked
    also current-rpc-body-marked
    also current-rpc-msg-marked
    also dirpath-marked
    also plain-marked mountstat-unpadded
    also mountres-marked
    also exports-marked
    also plain-marked port-mapping-unpadded
    also tt

-- end of every_marked

abbrev pub EachTells : List Branch → Type 0
EachTells [] = Unit {0}
EachTells (b ∷ l) = MarksTell b.format × EachTells l

each_tells : (l : List Branch) → EachMarked l → EachTells l
each_tells [] h = tt
each_tells (b ∷ l) h = (marks-tell b.format h.0, each_tells l h.1)

pub every_mark : EachTells kinds
every_mark = each_tells kinds every_marked
