-- Laws of each kind of the table: demands 2 and 3, of readings, of a public reader's answers and of what a public writer wrote; what
-- appending bytes changes, and how many refusal 1 wants; that two answers which a public reader's contract permits are one, in the code's own
-- types; and that a rewriting is never longer than the larger of 40 bytes and the bytes read.
-- Assumes nothing.
use Rattle.std.specs.Prelude.{◌≡◌, List, [], ◌∷◌, ℕ, ◌-◌, ◌≤◌, max, length, Result}
use Rattle.std.proofs.Common.{arith}
use Rattle.xdr.specs.Meaning.Format.{Format, Branch}
use Rattle.xdr.specs.Meaning.Public.{Answers, Took, rewritten}
use Rattle.xdr.specs.Meaning.Views.{view}
use Rattle.xdr.specs.Laws.Lengths.{Within, weaken, answer-no-longer}
use Rattle.xdr.specs.Laws.One.{one-read, told}
use Rattle.xdr.specs.Laws.Owed.{Owed, owed}
use Rattle.xdr.specs.declared.answer.Took as code
use Rattle.xdr.specs.declared.refusal.Refusal.{Refusal}
-- made by tools/generate: uses
use Rattle.xdr.specs.Laws.Lengths.{flag-within, int-within, long-within, word-within, hyper-within, eight-within, opaque-within, words-within}
use Rattle.rpc.specs.Laws.Lengths.{msg-type-within, reply-stat-within, crate-accept-stat-within, reject-stat-within, crate-auth-stat-within, auth-flavor-within, auth-unix-within, opaque-auth-within, crate-rpc-msg-within, crate-rpc-body-within, call-body-within, crate-reply-body-within, crate-accepted-reply-within, crate-accept-body-within, crate-rejected-reply-within, mismatch-info-within}
use Rattle.rpc.specs.Laws.Current.{current-accept-stat-within, current-auth-stat-within, current-accept-body-within, current-accepted-reply-within, current-rejected-reply-within, current-reply-body-within, current-rpc-body-within, current-rpc-msg-within}
use Rattle.nfsattr.specs.Laws.Lengths.{nfsstat-within, ftype-within, specdata-within, nfstime-within, fattr-within, fsinfo-within, wcc-attr-within, pre-op-attr-within, post-op-attr-within, wcc-data-within}
use Rattle.nfs.specs.Laws.Lengths.{time-how-within, set-atime-within, set-mtime-within, sattr-within}
use Rattle.nfs.specs.Laws.Dir.{nfs-fh-within, post-op-fh-within, diropargs-within, symlinkdata-within}
use Rattle.nfs.specs.Laws.Change.{set-mode-within, set-uid-within, set-gid-within, set-size-within}
use Rattle.nfsfile.specs.Laws.Setattr.{sattrguard-within, setattr-args-within, setattr-res-within}
use Rattle.nfsfile.specs.Laws.Getattr.{getattr-args-within, getattr-res-within}
use Rattle.nfsfile.specs.Laws.Lookup.{lookup-args-within, lookup-res-within}
use Rattle.nfsdata.specs.Laws.Write.{stable-how-within, write-args-within, write-res-within}
use Rattle.nfsdata.specs.Laws.Read.{read-args-within, read-res-within}
use Rattle.mount.specs.Laws.Path.{dirpath-within}
use Rattle.mount.specs.Laws.Mnt.{mountstat-within, mountres-within}
use Rattle.mount.specs.Laws.Export.{exports-within}
use Rattle.mount.specs.Laws.Portmap.{port-mapping-within}
-- end of uses
use Rattle.door.specs.Meaning.Kinds.{kinds}

-- demands 2 and 3, for any format, and so for these
abbrev pub EachOwed : List Branch → Type 0
EachOwed [] = Unit {0}
EachOwed (b ∷ l) = Owed b.format × EachOwed l

each_owed : (l : List Branch) → EachOwed l
each_owed [] = tt
each_owed (b ∷ l) = (owed b.format, each_owed l)

pub every_owed : EachOwed kinds
every_owed = each_owed kinds

-- two answers that a public reader's contract permits are one
abbrev pub EachOne : List Branch → Type 0
EachOne [] = Unit {0}
EachOne (b ∷ l) =
    ((s : List ℕ) (p : ℕ) (x y : Result (code.Took b.Has) Refusal) → Answers b.format s p (view x) → Answers b.format s p (view y) → x ≡ y)
    × EachOne l

each_one : (l : List Branch) → EachOne l
each_one [] = tt
each_one (b ∷ l) = (one-read told b.format, each_one l)

pub every_answer : EachOne kinds
every_answer = each_one kinds

-- the length of a rewriting
abbrev pub EachWithin : List Branch → Type 0
EachWithin [] = Unit {0}
EachWithin (b ∷ l) = Within 40 b.format.codec.kind × EachWithin l

infixr 15 ◌also◌
◌also◌ : {A B : Type 0} → A → B → A × B
a also b = (a, b)

-- made by tools/generate: every_within
every_within : EachWithin kinds
every_within =
    weaken (omega arith) flag-within
    also weaken (omega arith) int-within
    also weaken (omega arith) long-within
    also weaken (omega arith) word-within
    also weaken (omega arith) hyper-within
    also weaken (omega arith) eight-within
    also weaken (omega arith) opaque-within
    also weaken (omega arith) opaque-within
    also weaken (omega arith) words-within
    also weaken (omega arith) msg-type-within
    also weaken (omega arith) reply-stat-within
    also weaken (omega arith) crate-accept-stat-within
    also weaken (omega arith) reject-stat-within
    also weaken (omega arith) crate-auth-stat-within
    also weaken (omega arith) auth-flavor-within
    also weaken (omega arith) time-how-within
    also weaken (omega arith) nfsstat-within
    also weaken (omega arith) ftype-within
    also weaken (omega arith) auth-unix-within
    also weaken (omega arith) opaque-auth-within
    also crate-rpc-msg-within
    also weaken (omega arith) crate-rpc-body-within
    also weaken (omega arith) call-body-within
    also weaken (omega arith) crate-reply-body-within
    also weaken (omega arith) crate-accepted-reply-within
    also weaken (omega arith) crate-accept-body-within
    also weaken (omega arith) crate-rejected-reply-within
    also weaken (omega arith) mismatch-info-within
    also weaken (omega arith) specdata-within
    also weaken (omega arith) nfs-fh-within
    also weaken (omega arith) nfstime-within
    also weaken (omega arith) fattr-within
    also weaken (omega arith) fsinfo-within
    also weaken (omega arith) wcc-attr-within
    also weaken (omega arith) pre-op-attr-within
    also weaken (omega arith) post-op-attr-within
    also weaken (omega arith) wcc-data-within
    also weaken (omega arith) post-op-fh-within
    also weaken (omega arith) set-mode-within
    also weaken (omega arith) set-uid-within
    also weaken (omega arith) set-gid-within
    also weaken (omega arith) set-size-within
    also weaken (omega arith) set-atime-within
    also weaken (omega arith) set-mtime-within
    also weaken (omega arith) sattr-within
    also weaken (omega arith) diropargs-within
    also weaken (omega arith) symlinkdata-within
    also weaken (omega arith) stable-how-within
    also weaken (omega arith) sattrguard-within
    also weaken (omega arith) getattr-args-within
    also weaken (omega arith) getattr-res-within
    also weaken (omega arith) setattr-args-within
    also weaken (omega arith) setattr-res-within
    also weaken (omega arith) lookup-args-within
    also weaken (omega arith) lookup-res-within
    also weaken (omega arith) read-args-within
    also weaken (omega arith) read-res-within
    also weaken (omega arith) write-args-within
    also weaken (omega arith) write-res-within
    also weaken (omega arith) current-accept-stat-within
    also weaken (omega arith) current-auth-stat-within
    also weaken (omega arith) current-accept-body-within
    also weaken (omega arith) current-accepted-reply-within
    also weaken (omega arith) current-rejected-reply-within
    also weaken (omega arith) current-reply-body-within
    also weaken (omega arith) current-rpc-body-within
    also current-rpc-msg-within
    also weaken (omega arith) dirpath-within
    also weaken (omega arith) mountstat-within
    also weaken (omega arith) mountres-within
    also weaken (omega arith) exports-within
    also weaken (omega arith) port-mapping-within
    also tt

-- end of every_within

abbrev pub EachShort : List Branch → Type 0
EachShort [] = Unit {0}
EachShort (b ∷ l) = ((t : Took b.format) → length (rewritten b.format t) ≤ max 40 (t.next - t.place)) × EachShort l

each_short : (l : List Branch) → EachWithin l → EachShort l
each_short [] h = tt
each_short (b ∷ l) h = (answer-no-longer b.format h.0, each_short l h.1)

pub every_length : EachShort kinds
every_length = each_short kinds every_within
