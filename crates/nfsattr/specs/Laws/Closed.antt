-- A closed enumeration is written as the word of its number.
-- Assumes nothing.
use Rattle.std.specs.Prelude.{◌≡◌, List, [], ℕ}
use Rattle.std.proofs.Common.{ap}
use Rattle.xdr.specs.Meaning.Answer.{Written}
use Rattle.xdr.specs.Meaning.Items.{word}
use Rattle.xdr.specs.Meaning.Format.{exactly}
use Rattle.xdr.specs.Meaning.Public.{Writes}
use Rattle.xdr.specs.Laws.Closed.{by_number}
use Rattle.nfsattr.specs.Meaning.Stat.{nfsstat, stat_number, statuses, each_stat}
use Rattle.nfsattr.specs.Meaning.Attr.{ftype, ftype_number, ftypes, each_ftype}
use Rattle.nfsattr.specs.declared.stat.nfsstat3.{nfsstat3}
use Rattle.nfsattr.specs.declared.attr.ftype3.{ftype3}

pub nfsstat-writes : (a : nfsstat3) {v : ℕ} (at : ℕ) (o : List ℕ) {w : Written} {o' : List ℕ} → v ≡ stat_number a → Writes (exactly word) [] v at o w o'
    → Writes (exactly nfsstat) [] a at o w o'
unfolding nfsstat
nfsstat-writes = by_number stat_number statuses each_stat

pub nfsstat-bytes : (n : ℕ) (a : nfsstat3) → n ≡ stat_number a → word.kind.write n ≡ nfsstat.kind.write a
unfolding nfsstat
nfsstat-bytes n a e = ap word.kind.write e

pub ftype-writes : (a : ftype3) {v : ℕ} (at : ℕ) (o : List ℕ) {w : Written} {o' : List ℕ} → v ≡ ftype_number a → Writes (exactly word) [] v at o w o'
    → Writes (exactly ftype) [] a at o w o'
unfolding ftype
ftype-writes = by_number ftype_number ftypes each_ftype
