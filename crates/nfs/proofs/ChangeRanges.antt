-- made by tools/generate from crates/nfs/rfc/change.x
-- Ranges: every value of a declared type means a message in range.
-- Assumes nothing.
use mathlib.Core.List.{List}
use mir.Val.{Val}
use denote.Laws.{Is}
use Rattle.xdr.specs.Laws.Ranges.{flag-good, word_good, hyper-good}
use Rattle.nfs.specs.Meaning.Change.{set_mode, set_uid, set_gid, set_size}
use Rattle.nfs.specs.declared.change.set_gid3.{set_gid3}
use Rattle.nfs.specs.declared.change.set_mode3.{set_mode3}
use Rattle.nfs.specs.declared.change.set_size3.{set_size3}
use Rattle.nfs.specs.declared.change.set_uid3.{set_uid3}
use Rattle.nfs.specs.declared.change.set_mode3.TheVariants as setModeIs
use Rattle.nfs.specs.declared.change.set_uid3.TheVariants as setUidIs
use Rattle.nfs.specs.declared.change.set_gid3.TheVariants as setGidIs
use Rattle.nfs.specs.declared.change.set_size3.TheVariants as setSizeIs
use Rattle.nfs.specs.contracts.change.set_mode3 as set-mode3·
use Rattle.nfs.specs.contracts.change.set_uid3 as set-uid3·
use Rattle.nfs.specs.contracts.change.set_gid3 as set-gid3·
use Rattle.nfs.specs.contracts.change.set_size3 as set-size3·

pub set-mode-good : (m : set_mode3) {vs : List Val} → Is set-mode3·.the_row m vs → set_mode.kind.Good m
unfolding set_mode
set-mode-good setModeIs.Void p = search flag-good
set-mode-good (setModeIs.mode f) p = search (flag-good, word_good)

pub set-uid-good : (m : set_uid3) {vs : List Val} → Is set-uid3·.the_row m vs → set_uid.kind.Good m
unfolding set_uid
set-uid-good setUidIs.Void p = search flag-good
set-uid-good (setUidIs.uid f) p = search (flag-good, word_good)

pub set-gid-good : (m : set_gid3) {vs : List Val} → Is set-gid3·.the_row m vs → set_gid.kind.Good m
unfolding set_gid
set-gid-good setGidIs.Void p = search flag-good
set-gid-good (setGidIs.gid f) p = search (flag-good, word_good)

pub set-size-good : (m : set_size3) {vs : List Val} → Is set-size3·.the_row m vs → set_size.kind.Good m
unfolding set_size
set-size-good setSizeIs.Void p = search flag-good
set-size-good (setSizeIs.size f) p = search (flag-good, hyper-good)
