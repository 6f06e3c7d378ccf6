-- A bound that is refused: a message is read whole, and then held against the bound.
-- Assumes nothing.
use Rattle.std.specs.Prelude.{◌≡◌, ◌⊎◌, Bool, List, ℕ, ◌+◌}
use Rattle.std.proofs.Math.Option.{Option, none, some}
use Rattle.xdr.specs.Meaning.Bytes.{Stands}
use Rattle.xdr.specs.Meaning.Answer.{Answer, took, refused, Loose}
use Rattle.xdr.specs.Meaning.Kind.{Kind}
use Rattle.xdr.specs.declared.refusal.Refusal.{Refusal}
use Rattle.xdr.specs.declared.refusal.Refusal.TheVariants.{LongPath}

-- what was read at p, and how far behind p stands what is over the bound
abbrev pub capped : {A : Type 0} → ℕ → A → ℕ → Bool → Option ℕ → Answer A
capped p a n b none = took a n b
capped p a n b (some k) = refused (LongPath (p + k))

abbrev pub cap : {A : Type 0} → (A → Option ℕ) → ℕ → Answer A → Answer A
cap over p (took a n b) = capped p a n b (over a)
cap over p (refused r) = refused r

-- `over m`: where in its bytes m has the first that is over the bound
module _ {M : Type 0} (K : Kind M) (over : M → Option ℕ) where
  -- a message stands there, and it is over the bound
  pub record Exceeds (s : List ℕ) (p : ℕ) (r : Refusal) : Type 0 where
    pub message : M
    pub loose : List Loose
    pub used : List ℕ
    pub left : List ℕ
    pub form : K.Form message loose used
    pub stands : Stands used left s p
    pub offset : ℕ
    pub exceeds : over message ≡ some offset
    pub is : r ≡ LongPath (p + offset)

  abbrev pub bounded_kind : Kind M
  bounded_kind =
      record {
        Good = λ m. K.Good m × (over m ≡ none);
        Form = λ m w e. K.Form m w e × (over m ≡ none);
        Fault = λ s p r. K.Fault s p r ⊎ Exceeds s p r;
        read = λ s p. cap over p (K.read s p);
        write = K.write;
      }
