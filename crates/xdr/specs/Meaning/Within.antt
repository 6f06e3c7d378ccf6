-- The contract of a public writer of a message under a bound.
-- Assumes nothing.
use Rattle.std.specs.Prelude.{◌≡◌, Bool, true, false, List, ℕ, length}
use Rattle.std.proofs.Math.Option.{Option, none, some}
use Rattle.xdr.specs.Meaning.Answer.{Written}
use Rattle.xdr.specs.Meaning.Order.{bounding}
use Rattle.xdr.specs.Meaning.Format.{Format}
use Rattle.xdr.specs.Meaning.Lists.{bounded}
use Rattle.xdr.specs.Meaning.Public.{output, leaving, InRange}

-- nothing is over the bound
abbrev pub is_within : Option ℕ → Bool
is_within none = true
is_within (some k) = false

-- x of the source s is written as F writes it, if nothing in it is over the bound
pub record WritesWithin {M S : Type 0} (F : Format M S) (over : M → Option ℕ) (s : List ℕ) (x : S) (at : ℕ) (o : List ℕ) (w : Written) (o' : List ℕ) : Type 0 where
  pub says : w ≡ bounding (length s) (F.held.inside s x) (is_within (over (F.held.mean s x))) (length (output F s x)) (length o) at
  pub leaves : o' ≡ leaving F s x w at o
  pub good : InRange (bounded F over) s x w
