-- How each kind is read, and the steps of its plan.
-- Assumes nothing.
use Rattle.std.specs.Prelude.{◌≡◌, refl, Bool, true, false, ◌&&◌, ℕ}
use Rattle.std.proofs.Common.{ap}
use Rattle.xdr.specs.Meaning.Answer.{took}
use Rattle.xdr.specs.Laws.Plans.{◌next◌, asks}
use Rattle.xdr.specs.Laws.Records.{ByPlan, fields, one, still}
use Rattle.nfs.specs.Meaning.Change.{set_mode, set_uid, set_gid, set_size}
use Rattle.nfs.specs.Meaning.Set.{set-atime, set-mtime, sattr}

abbrev pub sattr-plan : ByPlan sattr
unfolding sattr
sattr-plan = fields (one set_mode next one set_uid next one set_gid next one set_size next one set-atime next one set-mtime) _ _ _ _

-- four marks, joined from the right and from the left
pub marks : {A : Type 0} (u : A) (n : ℕ) (a b c d : Bool) → took u n (a && (b && (c && d))) ≡ took u n (((a && b) && c) && d)
marks u n a b c d = ap (took u n) (by a b c)
  where
    by : (a b c : Bool) → a && (b && (c && d)) ≡ ((a && b) && c) && d
    by true true true = refl
    by true true false = refl
    by true false c = refl
    by false b c = refl

pub ruleset file-asks = (asks, still)
