-- Items that stand together, as their writers lay them.
-- Assumes nothing.
use Rattle.std.specs.Prelude.{◌≡◌, refl, ◌++◌, ℕ, length}
use Rattle.std.proofs.Common.{sym}
use Rattle.xdr.specs.Meaning.Items.{word, word_pair}
use Rattle.nfsattr.specs.Meaning.Attr.{nfstime}
use Rattle.nfsattr.specs.Laws.Groups.{transfer, limits}
use Rattle.xdr.specs.Laws.Fixed.{pair-fixed}
use Rattle.nfsattr.specs.Laws.Sizes.{nfstime-fixed, transfer-fixed, limits_fixed}
use Rattle.nfsattr.specs.declared.attr.nfstime3.{nfstime3}
use Rattle.nfsattr.specs.declared.inner.attr.Transfer.{Transfer}
use Rattle.nfsattr.specs.declared.inner.attr.Limits.{Limits}

pub two-times-size : (a b : nfstime3) → 16 ≡ length (nfstime.kind.write a ++ nfstime.kind.write b)
two-times-size a b = sym ((pair-fixed nfstime-fixed nfstime-fixed).writes (a, b))

pub transfers-size : (a b : Transfer) → 24 ≡ length (transfer.kind.write a ++ transfer.kind.write b)
transfers-size a b = sym ((pair-fixed transfer-fixed transfer-fixed).writes (a, b))

pub bounds-size : (a b : Transfer) (m : Limits) → 48 ≡ length ((transfer.kind.write a ++ transfer.kind.write b) ++ limits.kind.write m)
bounds-size a b m = sym ((pair-fixed (pair-fixed transfer-fixed transfer-fixed) limits_fixed).writes ((a, b), m))

-- a tag and a time
pub tag-time : (a : ℕ) (t : nfstime3) → word.kind.write a ++ word_pair.kind.write (t.seconds, t.nseconds) ≡ word.kind.write a ++ nfstime.kind.write t
unfolding nfstime word_pair
tag-time a t = refl
