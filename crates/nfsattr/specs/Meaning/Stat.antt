-- The status that a result begins with (RFC 1813, section 2.5; section 2.6 says what each means): 0, or the number of one of 28 failures.
-- Assumes nothing.
use Rattle.std.specs.Prelude.{◌≡◌, refl, List, [], ◌∷◌, map, ℕ}
use Rattle.std.proofs.Math.Option.{Option, none, some}
use Rattle.xdr.specs.Meaning.Kind.{Codec}
use Rattle.xdr.specs.Meaning.Combinators.{means}
use Rattle.xdr.specs.Meaning.Items.{closed}
use Rattle.xdr.specs.Meaning.Combinators.{among}
use Rattle.xdr.specs.Meaning.Status.{Status}
use Rattle.nfsattr.specs.declared.stat.nfsfail3.{nfsfail3}
use Rattle.nfsattr.specs.declared.stat.nfsfail3.TheVariants.{NFS3ERR_PERM, NFS3ERR_NOENT, NFS3ERR_IO, NFS3ERR_NXIO, NFS3ERR_ACCES, NFS3ERR_EXIST, NFS3ERR_XDEV, NFS3ERR_NODEV, NFS3ERR_NOTDIR, NFS3ERR_ISDIR, NFS3ERR_INVAL, NFS3ERR_FBIG, NFS3ERR_NOSPC, NFS3ERR_ROFS, NFS3ERR_MLINK, NFS3ERR_NAMETOOLONG, NFS3ERR_NOTEMPTY, NFS3ERR_DQUOT, NFS3ERR_STALE, NFS3ERR_REMOTE, NFS3ERR_BADHANDLE, NFS3ERR_NOT_SYNC, NFS3ERR_BAD_COOKIE, NFS3ERR_NOTSUPP, NFS3ERR_TOOSMALL, NFS3ERR_SERVERFAULT, NFS3ERR_BADTYPE, NFS3ERR_JUKEBOX}
use Rattle.nfsattr.specs.declared.stat.nfsstat3.{nfsstat3}
use Rattle.nfsattr.specs.declared.stat.nfsstat3.TheVariants.{NFS3_OK, Failed}

-- The 29 numbers in ascending order, as docs/SCOPE.md lists them (Closed lists), each beside its name in the RFC.
abbrev pub stat_number : nfsstat3 → ℕ
stat_number NFS3_OK = 0
stat_number (Failed NFS3ERR_PERM) = 1
stat_number (Failed NFS3ERR_NOENT) = 2
stat_number (Failed NFS3ERR_IO) = 5
stat_number (Failed NFS3ERR_NXIO) = 6
stat_number (Failed NFS3ERR_ACCES) = 13
stat_number (Failed NFS3ERR_EXIST) = 17
stat_number (Failed NFS3ERR_XDEV) = 18
stat_number (Failed NFS3ERR_NODEV) = 19
stat_number (Failed NFS3ERR_NOTDIR) = 20
stat_number (Failed NFS3ERR_ISDIR) = 21
stat_number (Failed NFS3ERR_INVAL) = 22
stat_number (Failed NFS3ERR_FBIG) = 27
stat_number (Failed NFS3ERR_NOSPC) = 28
stat_number (Failed NFS3ERR_ROFS) = 30
stat_number (Failed NFS3ERR_MLINK) = 31
stat_number (Failed NFS3ERR_NAMETOOLONG) = 63
stat_number (Failed NFS3ERR_NOTEMPTY) = 66
stat_number (Failed NFS3ERR_DQUOT) = 69
stat_number (Failed NFS3ERR_STALE) = 70
stat_number (Failed NFS3ERR_REMOTE) = 71
stat_number (Failed NFS3ERR_BADHANDLE) = 10001
stat_number (Failed NFS3ERR_NOT_SYNC) = 10002
stat_number (Failed NFS3ERR_BAD_COOKIE) = 10003
stat_number (Failed NFS3ERR_NOTSUPP) = 10004
stat_number (Failed NFS3ERR_TOOSMALL) = 10005
stat_number (Failed NFS3ERR_SERVERFAULT) = 10006
stat_number (Failed NFS3ERR_BADTYPE) = 10007
stat_number (Failed NFS3ERR_JUKEBOX) = 10008

abbrev pub fail_number : nfsfail3 → ℕ
fail_number f = stat_number (Failed f)

-- All failures. Nothing has to be ticked off from here on: if one were missing, `each_stat` would be false.
abbrev pub failures : List nfsfail3
failures =
    NFS3ERR_PERM ∷ NFS3ERR_NOENT ∷ NFS3ERR_IO ∷ NFS3ERR_NXIO ∷ NFS3ERR_ACCES ∷ NFS3ERR_EXIST ∷
    NFS3ERR_XDEV ∷ NFS3ERR_NODEV ∷ NFS3ERR_NOTDIR ∷ NFS3ERR_ISDIR ∷ NFS3ERR_INVAL ∷ NFS3ERR_FBIG ∷
    NFS3ERR_NOSPC ∷ NFS3ERR_ROFS ∷ NFS3ERR_MLINK ∷ NFS3ERR_NAMETOOLONG ∷ NFS3ERR_NOTEMPTY ∷
    NFS3ERR_DQUOT ∷ NFS3ERR_STALE ∷ NFS3ERR_REMOTE ∷ NFS3ERR_BADHANDLE ∷ NFS3ERR_NOT_SYNC ∷
    NFS3ERR_BAD_COOKIE ∷ NFS3ERR_NOTSUPP ∷ NFS3ERR_TOOSMALL ∷ NFS3ERR_SERVERFAULT ∷ NFS3ERR_BADTYPE ∷
    NFS3ERR_JUKEBOX ∷ []

abbrev pub statuses : List nfsstat3
statuses = NFS3_OK ∷ map Failed failures

pub each_stat : (a : nfsstat3) → among stat_number statuses (stat_number a) ≡ means a []
each_stat NFS3_OK = refl
each_stat (Failed NFS3ERR_PERM) = refl
each_stat (Failed NFS3ERR_NOENT) = refl
each_stat (Failed NFS3ERR_IO) = refl
each_stat (Failed NFS3ERR_NXIO) = refl
each_stat (Failed NFS3ERR_ACCES) = refl
each_stat (Failed NFS3ERR_EXIST) = refl
each_stat (Failed NFS3ERR_XDEV) = refl
each_stat (Failed NFS3ERR_NODEV) = refl
each_stat (Failed NFS3ERR_NOTDIR) = refl
each_stat (Failed NFS3ERR_ISDIR) = refl
each_stat (Failed NFS3ERR_INVAL) = refl
each_stat (Failed NFS3ERR_FBIG) = refl
each_stat (Failed NFS3ERR_NOSPC) = refl
each_stat (Failed NFS3ERR_ROFS) = refl
each_stat (Failed NFS3ERR_MLINK) = refl
each_stat (Failed NFS3ERR_NAMETOOLONG) = refl
each_stat (Failed NFS3ERR_NOTEMPTY) = refl
each_stat (Failed NFS3ERR_DQUOT) = refl
each_stat (Failed NFS3ERR_STALE) = refl
each_stat (Failed NFS3ERR_REMOTE) = refl
each_stat (Failed NFS3ERR_BADHANDLE) = refl
each_stat (Failed NFS3ERR_NOT_SYNC) = refl
each_stat (Failed NFS3ERR_BAD_COOKIE) = refl
each_stat (Failed NFS3ERR_NOTSUPP) = refl
each_stat (Failed NFS3ERR_TOOSMALL) = refl
each_stat (Failed NFS3ERR_SERVERFAULT) = refl
each_stat (Failed NFS3ERR_BADTYPE) = refl
each_stat (Failed NFS3ERR_JUKEBOX) = refl

unfoldable pub nfsstat : Codec nfsstat3
nfsstat = closed stat_number statuses each_stat

-- Success, or a failure: what a result is by its status.
abbrev pub failure_of : nfsstat3 → Option nfsfail3
failure_of NFS3_OK = none
failure_of (Failed f) = some f

abbrev pub status_for : Option nfsfail3 → nfsstat3
status_for none = NFS3_OK
status_for (some f) = Failed f

pub status_for_failure : (a : nfsstat3) → status_for (failure_of a) ≡ a
status_for_failure NFS3_OK = refl
status_for_failure (Failed f) = refl

pub failure_for_status : (o : Option nfsfail3) → failure_of (status_for o) ≡ o
failure_for_status none = refl
failure_for_status (some f) = refl

abbrev pub success_or : Status nfsstat3 nfsfail3
success_or = record { of = failure_of; to = status_for; to_of = status_for_failure; of_to = failure_for_status }
