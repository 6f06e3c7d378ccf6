-- What is set has no padding.
-- Assumes nothing.
use Rattle.std.specs.Prelude.{refl, ℕ, zero, suc}
use Rattle.xdr.specs.Laws.Unpadded.{Unpadded, SeesNone, void-unpadded, word-unpadded, chain-unpadded, pair-unpadded, view-unpadded, closed-unpadded}
use Rattle.nfsattr.specs.Laws.Unpadded.{nfstime-unpadded}
use Rattle.nfs.specs.Meaning.Set.{time_how, how_number, hows, each_how, set_time, time_arms, see_time, set-atime, set-mtime, sattr}
use Rattle.nfs.specs.Laws.Change.{set-mode-unpadded, set-uid-unpadded, set-gid-unpadded, set-size-unpadded}

pub time-how-unpadded : Unpadded time_how.kind
unfolding time_how
time-how-unpadded = closed-unpadded how_number hows each_how

time-arm : (tag : ℕ) → Unpadded (time_arms tag).format.codec.kind
time-arm zero = void-unpadded
time-arm (suc zero) = void-unpadded
time-arm (suc (suc zero)) = nfstime-unpadded
time-arm (suc (suc (suc n))) = void-unpadded

time-sees : (tag : ℕ) (x : (time_arms tag).Msg) → SeesNone (see_time tag x)
time-sees zero x = refl
time-sees (suc zero) x = refl
time-sees (suc (suc zero)) x = refl
time-sees (suc (suc (suc n))) x = tt

set-time-unpadded : Unpadded set_time.kind
unfolding set_time
set-time-unpadded = view-unpadded (λ y. time-sees y.0 y.1) (chain-unpadded word-unpadded time-arm)

pub set-atime-unpadded : Unpadded set-atime.kind
unfolding set-atime
set-atime-unpadded = view-unpadded (λ x. refl) set-time-unpadded

pub set-mtime-unpadded : Unpadded set-mtime.kind
unfolding set-mtime
set-mtime-unpadded = view-unpadded (λ x. refl) set-time-unpadded

pub sattr-unpadded : Unpadded sattr.kind
unfolding sattr
sattr-unpadded = view-unpadded (λ x. refl) (pair-unpadded set-mode-unpadded (pair-unpadded set-uid-unpadded (pair-unpadded set-gid-unpadded (pair-unpadded set-size-unpadded (pair-unpadded set-atime-unpadded set-mtime-unpadded)))))
