-- What is written under a bound reads back, and what was read under one is written as any other message is.
-- Assumes nothing.
use Rattle.std.specs.Prelude.{Bool, List, ℕ}
use Rattle.std.proofs.Common.{sym, subst}
use Rattle.std.proofs.Math.Option.{Option}
use Rattle.xdr.specs.Meaning.Answer.{took, Written, done}
use Rattle.xdr.specs.Meaning.Format.{Format}
use Rattle.xdr.specs.Meaning.Lists.{bounded}
use Rattle.xdr.specs.Meaning.Public.{Answers, Writes, Back}
use Rattle.xdr.specs.Meaning.Within.{WritesWithin}
use Rattle.xdr.specs.Laws.Write.{wrote-back}
use Rattle.xdr.specs.Laws.Within.{was-within, within-writes, Bounded, read-within}

module _ {M S : Type 0} (F : Format M S) (over : M → Option ℕ) (s : List ℕ) (x : S) (at : ℕ) (o : List ℕ) where
  -- it reads back as itself
  pub within-back : {n : ℕ} {o' : List ℕ} → WritesWithin F over s x at o (done n) o' → Back (bounded F over) s x at n o'
  within-back c = wrote-back (bounded F over) s x at o (within-writes F over s x at o (was-within F over s x at o c) c)

-- what was read of a kind under a bound is written as any other message is
module _ {M S : Type 0} {F : Format M S} {over : M → Option ℕ} {G : Format M S} (B : Bounded F over G) (s : List ℕ) (p : ℕ) {x : S} {n : ℕ} {b : Bool}
    (c : Answers G s p (took x n b)) where
  pub read-writes : {at : ℕ} {o : List ℕ} {w : Written} {o' : List ℕ} → WritesWithin F over s x at o w o' → Writes G s x at o w o'
  read-writes {at} {o} {w} {o'} d = subst (λ H. Writes H s x at o w o') (sym B.is) (within-writes F over s x at o (read-within B s p c) d)
