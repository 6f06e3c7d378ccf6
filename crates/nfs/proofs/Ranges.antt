-- Ranges: every value of a declared type means a message in range. `Is the_row m vs` is what owning a parameter m of the type tells: the
-- ranges of its numbers are fields of it, which `search` finds.
-- Assumes nothing.
use mathlib.Core.List.{List}
use native.Mathlib.Omega.{arith}
use mir.Val.{Val}
use denote.Laws.{Is}
use Rattle.xdr.specs.Laws.Ranges.{word_good}
use Rattle.nfs.specs.Meaning.Set.{set_time, set-atime, set-mtime, sattr}
use Rattle.nfs.specs.declared.set.set_atime.{set_atime}
use Rattle.nfs.specs.declared.set.set_mtime.{set_mtime}
use Rattle.nfs.specs.declared.set.sattr3.{sattr3}
use Rattle.nfs.specs.declared.set.set_atime.TheVariants as atime
use Rattle.nfs.specs.declared.set.set_mtime.TheVariants as mtime
use Rattle.nfsattr.proofs.Ranges.{nfstime-good}
use Rattle.nfs.proofs.ChangeRanges.{set-mode-good, set-uid-good, set-gid-good, set-size-good}
use Rattle.nfs.specs.contracts.set.set_atime as set-atime·
use Rattle.nfs.specs.contracts.set.set_mtime as set-mtime·
use Rattle.nfs.specs.contracts.set.sattr3 as sattr3·

pub set-atime-good : (m : set_atime) {vs : List Val} → Is set-atime·.the_row m vs → set-atime.kind.Good m
unfolding set-atime set_time
set-atime-good atime.DONT_CHANGE p = (word_good 0 (omega arith), tt)
set-atime-good atime.SET_TO_SERVER_TIME p = (word_good 1 (omega arith), tt)
set-atime-good (atime.SET_TO_CLIENT_TIME v) p = (word_good 2 (omega arith), search nfstime-good)

pub set-mtime-good : (m : set_mtime) {vs : List Val} → Is set-mtime·.the_row m vs → set-mtime.kind.Good m
unfolding set-mtime set_time
set-mtime-good mtime.DONT_CHANGE p = (word_good 0 (omega arith), tt)
set-mtime-good mtime.SET_TO_SERVER_TIME p = (word_good 1 (omega arith), tt)
set-mtime-good (mtime.SET_TO_CLIENT_TIME v) p = (word_good 2 (omega arith), search nfstime-good)

pub sattr-good : (m : sattr3) {vs : List Val} → Is sattr3·.the_row m vs → sattr.kind.Good m
unfolding sattr
sattr-good m p = search (set-mode-good, set-uid-good, set-gid-good, set-size-good, set-atime-good, set-mtime-good)
