-- What a kind of message is, what makes a kind lawful, and a codec: a kind with its laws.
-- Assumes nothing.
use Rattle.std.specs.Prelude.{◌≡◌, Bool, List, [], ◌++◌, ℕ, ◌+◌, ◌≤◌, ◌<◌, length}
use Rattle.xdr.specs.Meaning.Bytes.{Bytes, Stands}
use Rattle.xdr.specs.Meaning.Refusal.{OfReading, TooFew, less_by}
use Rattle.xdr.specs.Meaning.Answer.{Answer, took, refused, Came, Loose, clean}
use Rattle.xdr.specs.declared.refusal.Refusal.{Refusal}
use Rattle.xdr.specs.declared.refusal.Refusal.TheVariants.{Ended}

-- `Good m`: m is in range. `Form m w e`: the bytes e are a form of m, and w lists what is loose in it, so the published form has w empty.
-- `Fault s p r`: what stands at place p of s is whole up to the place of r, and r is what is wrong there.
-- `read s p`: what stands at place p of s. `write m`: the bytes that m is written as
pub record Kind (M : Type 0) : Type 1 where
  pub Good : M → Type 0
  pub Form : M → List Loose → List ℕ → Type 0
  pub Fault : List ℕ → ℕ → Refusal → Type 0
  pub read : List ℕ → ℕ → Answer M
  pub write : M → List ℕ

module _ {M : Type 0} (K : Kind M) where
  -- the bytes of s from p up to n are a form of m, and b says if nothing in it is loose
  pub record Found (s : List ℕ) (p : ℕ) (m : M) (n : ℕ) (b : Bool) : Type 0 where
    pub loose : List Loose
    pub used : List ℕ
    pub left : List ℕ
    pub stands : Stands used left s p
    pub next : n ≡ p + length used
    pub form : K.Form m loose used
    pub plain : b ≡ clean loose

  -- what an answer claims is so
  abbrev pub Sound : List ℕ → ℕ → Answer M → Type 0
  Sound s p (took m n b) = Found s p m n b
  Sound s p (refused r) = K.Fault s p r

  pub record Lawful : Type 0 where
    -- what is taken is a form that stands there, and what is refused has that fault
    pub sound : (s : List ℕ) (p : ℕ) → Bytes s → Sound s p (K.read s p)
    -- a form that stands there is taken
    pub complete : (m : M) (w : List Loose) (e t s : List ℕ) (p : ℕ) → K.Form m w e → Stands e t s p
        → K.read s p ≡ took m (p + length e) (clean w)
    -- a fault that is there is found
    pub refuses : (s : List ℕ) (p : ℕ) (r : Refusal) → K.Fault s p r → K.read s p ≡ refused r
    -- and it is one that a reader can give
    pub numbered : (s : List ℕ) (p : ℕ) (r : Refusal) → K.Fault s p r → OfReading r
    -- two forms of the same bytes have the same loose in them
    pub alike : (m m' : M) (w w' : List Loose) (e : List ℕ) → K.Form m w e → K.Form m' w' e → w ≡ w'
    -- what has a form is in range
    pub good : (m : M) (w : List Loose) (e : List ℕ) → K.Form m w e → K.Good m
    -- what is in range is written in a form with nothing loose
    pub written : (m : M) → K.Good m → K.Form m [] (K.write m)
    -- a form with nothing loose is what is written
    pub plain : (m : M) (e : List ℕ) → K.Form m [] e → e ≡ K.write m
    -- refusal 1 has a place between where the reading begins and where the bytes end, and wants a byte at least
    pub ended : (s : List ℕ) (p q w : ℕ) → p ≤ length s → K.Fault s p (Ended q w) → (p ≤ q) × (q ≤ length s) × (0 < w)
    -- appending fewer bytes than a fault wants leaves it, wanting that many less
    pub few : (s t : List ℕ) (p : ℕ) (r : Refusal) → p ≤ length s → K.Fault s p r → TooFew (length t) r → K.Fault (s ++ t) p (less_by (length t) r)
    -- appending exactly as many finishes the item, or its length word
    pub enough : (s t : List ℕ) (p q w : ℕ) → p ≤ length s → Bytes (s ++ t) → K.Fault s p (Ended q w) → length t ≡ w → Came s t q (K.read (s ++ t) p)

pub record Codec (M : Type 0) : Type 1 where
  pub kind : Kind M
  pub laws : Lawful kind
