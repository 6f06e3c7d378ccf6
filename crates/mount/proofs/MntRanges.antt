-- made by tools/generate from crates/mount/rfc/mnt.x
-- Ranges: every value of a declared type means a message in range.
-- Assumes nothing.
use mathlib.Core.Path.{◌≡◌}
use mathlib.Core.Bool.{true}
use mathlib.Core.Option.{none, some}
use mathlib.Core.List.{List}
use Prim.Native.Nat.{ℕ, ◌≤◌}
use native.Mathlib.Omega.{arith}
use lib.ListN.{length}
use mir.Val.{Val}
use denote.Laws.{Is}
use Rattle.xdr.specs.Meaning.Answer.{most}
use Rattle.xdr.specs.Meaning.Bytes.{Bytes}
use Rattle.xdr.specs.Meaning.Formats.{piece_held, words_held}
use Rattle.xdr.specs.Meaning.Pieces.{is_inside, are_inside}
use Rattle.xdr.specs.Laws.Marks.{and_right}
use Rattle.xdr.specs.Laws.Pieces.{piece-good}
use Rattle.xdr.specs.Laws.Words.{words-good}
use Rattle.xdr.specs.Laws.Ranges.{word_good}
use Rattle.mount.specs.Meaning.Mnt.{mountstat, mountres_ok, mountres, mountstat_for}
use Rattle.mount.specs.declared.mnt.mountres3.{mountres3}
use Rattle.mount.specs.declared.mnt.mountres3_ok.{mountres3_ok}
use Rattle.mount.specs.declared.mnt.mountstat3.{mountstat3}
use Rattle.mount.specs.declared.mnt.mountstat3.TheVariants as mountstatIs
use Rattle.mount.specs.declared.mnt.mountfail3.TheVariants as mountfailIs
use Rattle.mount.specs.declared.mnt.mountres3.TheVariants as mountresIs
use Rattle.mount.specs.contracts.mnt.mountres3_ok as mountres3-ok·
use Rattle.mount.specs.contracts.mnt.mountres3 as mountres3·

pub mountstat-good : (a : mountstat3) → mountstat.kind.Good a
unfolding mountstat
mountstat-good mountstatIs.MNT3_OK = word_good _ (omega arith)
mountstat-good (mountstatIs.Failed mountfailIs.MNT3ERR_PERM) = word_good _ (omega arith)
mountstat-good (mountstatIs.Failed mountfailIs.MNT3ERR_NOENT) = word_good _ (omega arith)
mountstat-good (mountstatIs.Failed mountfailIs.MNT3ERR_IO) = word_good _ (omega arith)
mountstat-good (mountstatIs.Failed mountfailIs.MNT3ERR_ACCES) = word_good _ (omega arith)
mountstat-good (mountstatIs.Failed mountfailIs.MNT3ERR_NOTDIR) = word_good _ (omega arith)
mountstat-good (mountstatIs.Failed mountfailIs.MNT3ERR_INVAL) = word_good _ (omega arith)
mountstat-good (mountstatIs.Failed mountfailIs.MNT3ERR_NAMETOOLONG) = word_good _ (omega arith)
mountstat-good (mountstatIs.Failed mountfailIs.MNT3ERR_NOTSUPP) = word_good _ (omega arith)
mountstat-good (mountstatIs.Failed mountfailIs.MNT3ERR_SERVERFAULT) = word_good _ (omega arith)

module _ (s : List ℕ) (h : Bytes s) (k : length s ≤ most) where
  pub mountres-ok-good : (m : mountres3_ok) {vs : List Val} → Is mountres3-ok·.the_row m vs → mountres_ok.held.inside s m ≡ true → mountres_ok.codec.kind.Good (mountres_ok.held.mean s m)
  unfolding mountres_ok piece_held words_held
  mountres-ok-good m p i = (piece-good s m.fhandle h k, words-good s m.auth_flavors h k (and_right (is_inside s m.fhandle) (are_inside s m.auth_flavors) i))

  pub mountres-good : (m : mountres3) {vs : List Val} → Is mountres3·.the_row m vs → mountres.held.inside s m ≡ true → mountres.codec.kind.Good (mountres.held.mean s m)
  unfolding mountres piece_held
  mountres-good (mountresIs.MNT3_OK f) p i = (mountstat-good (mountstat_for none), (let e : mountres_ok.held.inside s f ≡ true = i in search mountres-ok-good))
  mountres-good (mountresIs.Failed e) p i = (mountstat-good (mountstat_for (some e)), tt)
