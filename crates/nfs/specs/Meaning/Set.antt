-- What may be set (RFC 1813, section 2.6).
-- Assumes nothing.
use Rattle.std.specs.Prelude.{◌≡◌, refl, List, [], ◌∷◌, ℕ, zero, suc}
use Rattle.xdr.specs.Meaning.Kind.{Codec}
use Rattle.xdr.specs.Meaning.Combinators.{Seen, means, undeclared}
use Rattle.xdr.specs.Meaning.Codecs.{void, ◌⨾◌, mapped}
use Rattle.xdr.specs.Meaning.Items.{word, closed}
use Rattle.xdr.specs.Meaning.Combinators.{among}
use Rattle.xdr.specs.Meaning.Format.{exactly, Branch, branch, Kept, Back, union}
use Rattle.nfsattr.specs.Meaning.Attr.{nfstime}
use Rattle.nfsattr.specs.declared.attr.nfstime3.{nfstime3}
use Rattle.nfs.specs.Meaning.Change.{set_mode, set_uid, set_gid, set_size}
use Rattle.nfs.specs.declared.set._time_how.{_time_how}
use Rattle.nfs.specs.declared.set._time_how.TheVariants as how
use Rattle.nfs.specs.declared.set.set_atime.{set_atime}
use Rattle.nfs.specs.declared.set.set_atime.TheVariants as atime·
use Rattle.nfs.specs.declared.set.set_mtime.{set_mtime}
use Rattle.nfs.specs.declared.set.set_mtime.TheVariants as mtime·
use Rattle.nfs.specs.declared.set.sattr3.{sattr3}

-- _time_how: 0 to 2
abbrev pub how_number : _time_how → ℕ
how_number how.DONT_CHANGE = 0
how_number how.SET_TO_SERVER_TIME = 1
how_number how.SET_TO_CLIENT_TIME = 2

abbrev pub hows : List _time_how
hows = how.DONT_CHANGE ∷ how.SET_TO_SERVER_TIME ∷ how.SET_TO_CLIENT_TIME ∷ []

pub each_how : (a : _time_how) → among how_number hows (how_number a) ≡ means a []
each_how how.DONT_CHANGE = refl
each_how how.SET_TO_SERVER_TIME = refl
each_how how.SET_TO_CLIENT_TIME = refl

unfoldable pub time_how : Codec _time_how
time_how = closed how_number hows each_how

-- set_atime and set_mtime: what is done with a time, by a tag of 0 to 2; any other tag is undeclared
pub data SetTime : Type 0 where
  dont_change : SetTime
  server_time : SetTime
  client_time : nfstime3 → SetTime

abbrev pub time_arms : ℕ → Branch
time_arms zero = branch (exactly void)
time_arms (suc zero) = branch (exactly void)
time_arms (suc (suc zero)) = branch (exactly nfstime)
time_arms (suc (suc (suc n))) = branch (exactly void)

abbrev pub see_time : (tag : ℕ) → (time_arms tag).Msg → Seen SetTime
see_time zero u = means dont_change []
see_time (suc zero) u = means server_time []
see_time (suc (suc zero)) t = means (client_time t) []
see_time (suc (suc (suc n))) u = undeclared

abbrev pub from_time : SetTime → (tag : ℕ) × (time_arms tag).Msg
from_time dont_change = (0, tt)
from_time server_time = (1, tt)
from_time (client_time t) = (2, t)

pub time_kept : Kept word time_arms see_time from_time
time_kept zero u = refl
time_kept (suc zero) u = refl
time_kept (suc (suc zero)) t = refl
time_kept (suc (suc (suc n))) u = tt

pub time_back : Back word time_arms see_time from_time
time_back dont_change = refl
time_back server_time = refl
time_back (client_time t) = refl

unfoldable pub set_time : Codec SetTime
set_time = union word time_arms see_time from_time time_kept time_back

-- the same under the names that a type has for the three cases
pub record Times (T : Type 0) : Type 0 where
  pub to : SetTime → T
  pub from : T → SetTime
  pub from_to : (x : SetTime) → from (to x) ≡ x
  pub to_from : (y : T) → to (from y) ≡ y

abbrev pub timed : {T : Type 0} → Times T → Codec T
timed U = mapped set_time U.to U.from U.from_to U.to_from

abbrev pub atime_to : SetTime → set_atime
atime_to dont_change = atime·.DONT_CHANGE
atime_to server_time = atime·.SET_TO_SERVER_TIME
atime_to (client_time t) = atime·.SET_TO_CLIENT_TIME t

abbrev pub atime_from : set_atime → SetTime
atime_from atime·.DONT_CHANGE = dont_change
atime_from atime·.SET_TO_SERVER_TIME = server_time
atime_from (atime·.SET_TO_CLIENT_TIME t) = client_time t

pub atime_from_to : (x : SetTime) → atime_from (atime_to x) ≡ x
atime_from_to dont_change = refl
atime_from_to server_time = refl
atime_from_to (client_time t) = refl

pub atime_to_from : (y : set_atime) → atime_to (atime_from y) ≡ y
atime_to_from atime·.DONT_CHANGE = refl
atime_to_from atime·.SET_TO_SERVER_TIME = refl
atime_to_from (atime·.SET_TO_CLIENT_TIME t) = refl

abbrev pub atime_cases : Times set_atime
atime_cases = record { to = atime_to; from = atime_from; from_to = atime_from_to; to_from = atime_to_from }

unfoldable pub set-atime : Codec set_atime
set-atime = timed atime_cases

abbrev pub mtime_to : SetTime → set_mtime
mtime_to dont_change = mtime·.DONT_CHANGE
mtime_to server_time = mtime·.SET_TO_SERVER_TIME
mtime_to (client_time t) = mtime·.SET_TO_CLIENT_TIME t

abbrev pub mtime_from : set_mtime → SetTime
mtime_from mtime·.DONT_CHANGE = dont_change
mtime_from mtime·.SET_TO_SERVER_TIME = server_time
mtime_from (mtime·.SET_TO_CLIENT_TIME t) = client_time t

pub mtime_from_to : (x : SetTime) → mtime_from (mtime_to x) ≡ x
mtime_from_to dont_change = refl
mtime_from_to server_time = refl
mtime_from_to (client_time t) = refl

pub mtime_to_from : (y : set_mtime) → mtime_to (mtime_from y) ≡ y
mtime_to_from mtime·.DONT_CHANGE = refl
mtime_to_from mtime·.SET_TO_SERVER_TIME = refl
mtime_to_from (mtime·.SET_TO_CLIENT_TIME t) = refl

abbrev pub mtime_cases : Times set_mtime
mtime_cases = record { to = mtime_to; from = mtime_from; from_to = mtime_from_to; to_from = mtime_to_from }

unfoldable pub set-mtime : Codec set_mtime
set-mtime = timed mtime_cases

-- sattr3
unfoldable pub sattr : Codec sattr3
sattr =
    mapped (set_mode ⨾ set_uid ⨾ set_gid ⨾ set_size ⨾ set-atime ⨾ set-mtime) (λ x. record { mode = x.0; uid = x.1.0; gid = x.1.1.0; size = x.1.1.1.0; atime = x.1.1.1.1.0; mtime = x.1.1.1.1.1 }) (λ m. (m.mode, (m.uid, (m.gid, (m.size, (m.atime, m.mtime))))))
    (λ x. refl) (λ m. refl)
