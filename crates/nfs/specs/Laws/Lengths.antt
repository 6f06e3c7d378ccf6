-- How many bytes the kinds take, and that no rewriting is longer than the bytes read.
-- Assumes nothing.
use Rattle.std.specs.Prelude.{◌≡◌, List, ◌∷◌, ℕ, zero, suc}
use Rattle.std.proofs.Common.{arith}
use Rattle.xdr.specs.Meaning.Answer.{Way}
use Rattle.xdr.specs.Meaning.Combinators.{means}
use Rattle.xdr.specs.Meaning.Codecs.{◌⨾◌}
use Rattle.xdr.specs.Meaning.Items.{word, hyper}
use Rattle.xdr.specs.Meaning.Format.{tagged}
use Rattle.xdr.specs.Laws.Lengths.{Lengths, Within, void-lengths, void-within, chain-lengths, chain-within, pair-within, pair-lengths, view-within, view-lengths, no_default, word-lengths, word-within, hyper-lengths, closed-within, option-lengths}
use Rattle.nfsattr.specs.Laws.Lengths.{nfstime-lengths, nfstime-within}
use Rattle.nfs.specs.Meaning.Change.{set_mode, set_uid, set_gid, set_size}
use Rattle.nfs.specs.Laws.Change.{set-mode-within, set-uid-within, set-gid-within, set-size-within}
use Rattle.nfs.specs.Meaning.Set.{SetTime, time_how, how_number, hows, each_how, set_time, time_arms, see_time, set-atime, set-mtime, sattr}

pub time-how-within : Within 0 time_how.kind
unfolding time_how
time-how-within = closed-within how_number hows each_how

-- what may be set
pub set-mode-lengths : Lengths 4 8 set_mode.kind
unfolding set_mode
set-mode-lengths = view-lengths (option-lengths word word-lengths)

pub set-uid-lengths : Lengths 4 8 set_uid.kind
unfolding set_uid
set-uid-lengths = view-lengths (option-lengths word word-lengths)

pub set-gid-lengths : Lengths 4 8 set_gid.kind
unfolding set_gid
set-gid-lengths = view-lengths (option-lengths word word-lengths)

pub set-size-lengths : Lengths 4 12 set_size.kind
unfolding set_size
set-size-lengths = view-lengths (option-lengths hyper hyper-lengths)

time-arm-lengths : (tag : ℕ) → Lengths 0 8 (time_arms tag).format.codec.kind
time-arm-lengths zero = record { of = λ m w e f. omega (arith, void-lengths.of m w e f) }
time-arm-lengths (suc zero) = record { of = λ m w e f. omega (arith, void-lengths.of m w e f) }
time-arm-lengths (suc (suc zero)) = record { of = λ m w e f. omega (arith, nfstime-lengths.of m w e f) }
time-arm-lengths (suc (suc (suc n))) = record { of = λ m w e f. omega (arith, void-lengths.of m w e f) }

time-arm-within : (tag : ℕ) → Within 0 (time_arms tag).format.codec.kind
time-arm-within zero = void-within
time-arm-within (suc zero) = void-within
time-arm-within (suc (suc zero)) = nfstime-within
time-arm-within (suc (suc (suc n))) = void-within

-- no tag of a time is loose: it is declared, or refused
time-tight : (tag : ℕ) (x : (time_arms tag).Msg) {P : Type 0} {m : SetTime} {l : Way} {u : List Way} → see_time tag x ≡ means m (l ∷ u) → P
time-tight zero x s = no_default s
time-tight (suc zero) x s = no_default s
time-tight (suc (suc zero)) x s = no_default s
time-tight (suc (suc (suc n))) x s = let z : ◌≡◌ {A = ℕ} 0 1 = cc in absurd (omega arith)

set-time-lengths : Lengths 4 12 set_time.kind
unfolding set_time
set-time-lengths = view-lengths (chain-lengths word-lengths time-arm-lengths)

set-time-within : Within 0 set_time.kind
unfolding set_time
set-time-within =
    view-within _ _ (tagged word time_arms).codec.laws (chain-within word-within time-arm-within) (λ x m l u w e s f. time-tight x.0 x.1 s)

pub set-atime-lengths : Lengths 4 12 set-atime.kind
unfolding set-atime
set-atime-lengths = view-lengths set-time-lengths

pub set-atime-within : Within 0 set-atime.kind
unfolding set-atime
set-atime-within = view-within _ _ set_time.laws set-time-within (λ x m l u w e s f. no_default s)

pub set-mtime-lengths : Lengths 4 12 set-mtime.kind
unfolding set-mtime
set-mtime-lengths = view-lengths set-time-lengths

pub set-mtime-within : Within 0 set-mtime.kind
unfolding set-mtime
set-mtime-within = view-within _ _ set_time.laws set-time-within (λ x m l u w e s f. no_default s)

pub sattr-lengths : Lengths 24 60 sattr.kind
unfolding sattr
sattr-lengths =
    view-lengths
    (pair-lengths set-mode-lengths
    (pair-lengths set-uid-lengths (pair-lengths set-gid-lengths (pair-lengths set-size-lengths (pair-lengths set-atime-lengths set-mtime-lengths)))))

pub sattr-within : Within 0 sattr.kind
unfolding sattr
sattr-within =
    view-within _ _ (set_mode ⨾ set_uid ⨾ set_gid ⨾ set_size ⨾ set-atime ⨾ set-mtime).laws
    (pair-within set-mode-within
    (pair-within set-uid-within (pair-within set-gid-within (pair-within set-size-within (pair-within set-atime-within set-mtime-within)))))
    (λ x m l u w e s f. no_default s)
