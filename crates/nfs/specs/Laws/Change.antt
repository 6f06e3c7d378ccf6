-- made by tools/generate from crates/nfs/rfc/change.x
-- What follows for the kinds of change: how they are read, how many bytes they have, and what is laid of them.
-- Assumes nothing.
use Rattle.std.specs.Prelude.{refl, ◌≤◌, length}
use Rattle.std.proofs.Common.{arith}
use Rattle.xdr.specs.Meaning.Answer.{most}
use Rattle.xdr.specs.Meaning.Items.{word, hyper}
use Rattle.xdr.specs.Laws.Fixed.{word-fixed, hyper-fixed}
use Rattle.xdr.specs.Laws.Records.{ByPlan}
use Rattle.xdr.specs.Laws.Lengths.{Within, word-within, hyper-within}
use Rattle.xdr.specs.Laws.Optional.{maybe-plan, maybe-within, Optional, Between, maybe-between}
use Rattle.xdr.specs.Laws.Unpadded.{Unpadded, view-unpadded, word-unpadded, hyper-unpadded}
use Rattle.xdr.proofs.Flagged.{option-unpadded}
use Rattle.nfs.specs.Meaning.Change.{set_mode, set_mode_cases, set_uid, set_uid_cases, set_gid, set_gid_cases, set_size, set_size_cases}
use Rattle.nfs.specs.declared.change.set_gid3.{set_gid3}
use Rattle.nfs.specs.declared.change.set_mode3.{set_mode3}
use Rattle.nfs.specs.declared.change.set_size3.{set_size3}
use Rattle.nfs.specs.declared.change.set_uid3.{set_uid3}

-- set_mode3
abbrev pub set-mode-plan : ByPlan set_mode
unfolding set_mode
set-mode-plan = maybe-plan word set_mode_cases

pub set-mode-within : Within 0 set_mode.kind
unfolding set_mode
set-mode-within = maybe-within word set_mode_cases word-within

pub set-mode-optional : Optional word set_mode_cases set_mode
unfolding set_mode
set-mode-optional = record { is = refl }

pub set-mode-between : (v : set_mode3) → Between 4 8 (length (set_mode.kind.write v))
unfolding set_mode
set-mode-between v = maybe-between word set_mode_cases word-fixed v

pub set-mode-small : (v : set_mode3) → length (set_mode.kind.write v) ≤ most
set-mode-small v = omega (arith, set-mode-between v)

pub set-mode-unpadded : Unpadded set_mode.kind
unfolding set_mode
set-mode-unpadded = view-unpadded (λ x. refl) (option-unpadded word word-unpadded)

-- set_uid3
abbrev pub set-uid-plan : ByPlan set_uid
unfolding set_uid
set-uid-plan = maybe-plan word set_uid_cases

pub set-uid-within : Within 0 set_uid.kind
unfolding set_uid
set-uid-within = maybe-within word set_uid_cases word-within

pub set-uid-optional : Optional word set_uid_cases set_uid
unfolding set_uid
set-uid-optional = record { is = refl }

pub set-uid-between : (v : set_uid3) → Between 4 8 (length (set_uid.kind.write v))
unfolding set_uid
set-uid-between v = maybe-between word set_uid_cases word-fixed v

pub set-uid-small : (v : set_uid3) → length (set_uid.kind.write v) ≤ most
set-uid-small v = omega (arith, set-uid-between v)

pub set-uid-unpadded : Unpadded set_uid.kind
unfolding set_uid
set-uid-unpadded = view-unpadded (λ x. refl) (option-unpadded word word-unpadded)

-- set_gid3
abbrev pub set-gid-plan : ByPlan set_gid
unfolding set_gid
set-gid-plan = maybe-plan word set_gid_cases

pub set-gid-within : Within 0 set_gid.kind
unfolding set_gid
set-gid-within = maybe-within word set_gid_cases word-within

pub set-gid-optional : Optional word set_gid_cases set_gid
unfolding set_gid
set-gid-optional = record { is = refl }

pub set-gid-between : (v : set_gid3) → Between 4 8 (length (set_gid.kind.write v))
unfolding set_gid
set-gid-between v = maybe-between word set_gid_cases word-fixed v

pub set-gid-small : (v : set_gid3) → length (set_gid.kind.write v) ≤ most
set-gid-small v = omega (arith, set-gid-between v)

pub set-gid-unpadded : Unpadded set_gid.kind
unfolding set_gid
set-gid-unpadded = view-unpadded (λ x. refl) (option-unpadded word word-unpadded)

-- set_size3
abbrev pub set-size-plan : ByPlan set_size
unfolding set_size
set-size-plan = maybe-plan hyper set_size_cases

pub set-size-within : Within 0 set_size.kind
unfolding set_size
set-size-within = maybe-within hyper set_size_cases hyper-within

pub set-size-optional : Optional hyper set_size_cases set_size
unfolding set_size
set-size-optional = record { is = refl }

pub set-size-between : (v : set_size3) → Between 4 12 (length (set_size.kind.write v))
unfolding set_size
set-size-between v = maybe-between hyper set_size_cases hyper-fixed v

pub set-size-small : (v : set_size3) → length (set_size.kind.write v) ≤ most
set-size-small v = omega (arith, set-size-between v)

pub set-size-unpadded : Unpadded set_size.kind
unfolding set_size
set-size-unpadded = view-unpadded (λ x. refl) (option-unpadded hyper hyper-unpadded)
