-- Kinds of one size, which the code has as the constant `SIZE` of the kind's type.
-- Assumes nothing.
use Rattle.std.specs.Prelude.{◌≡◌, Bool, List, ℕ, ◌+◌, length}
use Rattle.xdr.specs.Meaning.Answer.{took}
use Rattle.xdr.specs.Meaning.Kind.{Codec}

-- whatever is read of the kind takes k bytes, and whatever is written has k bytes
pub record OfSize {M : Type 0} (k : ℕ) (C : Codec M) : Type 0 where
  pub reads : (s : List ℕ) (p : ℕ) {m : M} {n : ℕ} {b : Bool} → C.kind.read s p ≡ took m n b → n ≡ p + k
  pub writes : (m : M) → length (C.kind.write m) ≡ k
