-- Bytes and places: the list lemmas that the laws share.
-- Assumes nothing.
use Rattle.std.specs.Prelude.{◌≡◌, List, [], ◌∷◌, ◌++◌, ℕ, zero, suc, ◌+◌, ◌-◌, ◌≤◌, ◌<◌, length, get_or, take, drop}
use Rattle.std.proofs.Common.{sym, ap, ◌∙◌, append_assoc, arith, length-append, length-drop, drop-drop, Fits}
use Rattle.std.proofs.Math.Seq.{drop-append_seam}
use Rattle.std.proofs.lemmas.List.{drop-append-le}
use Rattle.std.specs.Int.{w8}
use Rattle.xdr.specs.Meaning.Bytes.{Bytes, Stands}

pub bytes_take : (n : ℕ) (l : List ℕ) → Bytes l → Bytes (take n l)
bytes_take zero l h = tt
bytes_take (suc n) [] h = tt
bytes_take (suc n) (x ∷ l) h = (h.0, bytes_take n l h.1)

pub bytes_drop : (n : ℕ) (l : List ℕ) → Bytes l → Bytes (drop n l)
bytes_drop zero l h = h
bytes_drop (suc n) [] h = tt
bytes_drop (suc n) (x ∷ l) h = bytes_drop n l h.1

bytes_of : (s : List ℕ) → ((i : ℕ) → i < length s → get_or s i 0 < 256) → Bytes s
bytes_of [] h = tt
bytes_of (x ∷ s) h = (h 0 (omega arith), bytes_of s (λ i k. h (suc i) (omega arith)))

-- a slice of bytes is bytes; `given` is what a slice's rule gives
pub known_bytes : (s : List ℕ) → ((i : ℕ) → Fits w8 (get_or s i 0)) → Bytes s
known_bytes s given = bytes_of s (λ i h. omega (arith, given i))

module _ (e t s : List ℕ) (p : ℕ) (h : Stands e t s p) where
  -- what stands after e
  pub after : drop (p + length e) s ≡ t
  after = sym (drop-drop (length e) p s) ∙ ap (drop (length e)) h ∙ drop-append_seam e t

  pub room : length s - p ≡ length e + length t
  room = sym (length-drop p s) ∙ ap length h ∙ length-append e t

  -- e and then e' is e ++ e'
  pub stands-append : (e' t' : List ℕ) → Stands e' t' s (p + length e) → Stands (e ++ e') t' s p
  stands-append e' t' h' = h ∙ ap (λ (l : List ℕ). e ++ l) (sym after ∙ h') ∙ sym (append_assoc e e' t')

-- e ++ e' is e and then e'
pub stands-first : (e e' t s : List ℕ) (p : ℕ) → Stands (e ++ e') t s p → Stands e (e' ++ t) s p
stands-first e e' t s p h = h ∙ append_assoc e e' t

pub stands-second : (e e' t s : List ℕ) (p : ℕ) → Stands (e ++ e') t s p → Stands e' t s (p + length e)
stands-second e e' t s p h = after e (e' ++ t) s p (stands-first e e' t s p h)

-- what stands in a source stands there with more behind it
pub stands-grow : (e l s t : List ℕ) (p : ℕ) → p ≤ length s → Stands e l s p → Stands e (l ++ t) (s ++ t) p
stands-grow e l s t p g h = drop-append-le p s t g ∙ ap (λ x. x ++ t) h ∙ append_assoc e l t

-- and what comes after it lies inside too
pub stands-inside : (e l s : List ℕ) (p : ℕ) → p ≤ length s → Stands e l s p → p + length e ≤ length s
stands-inside e l s p g h = omega (arith, room e l s p h)
