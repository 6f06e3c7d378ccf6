-- A linked list (RFC 4506, section 4.19): an optional element, and behind one that is there the rest of the list.
-- Assumes nothing.
use Rattle.std.specs.Prelude.{◌≡◌, refl, Bool, false, List, [], ◌∷◌, ℕ, zero, suc, eqb, length}
use Rattle.std.proofs.Math.Option.{Option, none, some}
use Rattle.xdr.specs.Meaning.Answer.{Answer, took, refused}
use Rattle.xdr.specs.Meaning.Kind.{Kind, Codec}
use Rattle.xdr.specs.Meaning.Codecs.{void, never, chain, mapped}
use Rattle.xdr.specs.declared.piece.Piece.{Piece}

-- by the kind of an optional element
module _ {M : Type 0} (O : Codec (Option M)) where
  -- what stands behind an optional element: nothing at the list's end, and else the rest of the list
  abbrev pub Rest : Option M → Type 0
  Rest none = Unit {0}
  Rest (some m) = List M

  abbrev pub rest : Codec (List M) → (o : Option M) → Codec (Rest o)
  rest D none = void
  rest D (some m) = D

  abbrev pub join : (o : Option M) → Rest o → List M
  join none u = []
  join (some m) l = m ∷ l

  abbrev pub split : List M → (o : Option M) × Rest o
  split [] = (none, tt)
  split (m ∷ l) = (some m, l)

  pub split_join : (o : Option M) (x : Rest o) → split (join o x) ≡ (o, x)
  split_join none u = refl
  split_join (some m) l = refl

  pub join_split : (l : List M) → join (split l).0 (split l).1 ≡ l
  join_split [] = refl
  join_split (m ∷ l) = refl

  -- the lists of fewer than k elements
  abbrev pub fewer : ℕ → Codec (List M)
  fewer zero = never (List M)
  fewer (suc k) = mapped (chain O (rest (fewer k))) (λ x. join x.0 x.1) split (λ x. split_join x.0 x.1) join_split

  -- all lists: each element takes bytes, so there are no more of them than bytes
  abbrev pub linked_kind : Kind (List M)
  linked_kind =
      record {
        Good = λ l. (fewer (suc (length l))).kind.Good l;
        Form = λ l w e. (fewer (suc (length l))).kind.Form l w e;
        Fault = λ s p r. (fewer (suc (length s))).kind.Fault s p r;
        read = λ s p. (fewer (suc (length s))).kind.read s p;
        write = λ l. (fewer (suc (length l))).kind.write l;
      }

-- a list is held as its place and a count, with one mark over all its elements: the elements that are read there, and whether they are so many
module _ {M : Type 0} where
  abbrev pub placed_at : ℕ → Bool → List M → Piece
  placed_at p c l = record { at = p; count = length l; clean = c }

  abbrev pub elements_of : Answer (List M) → List M
  elements_of (took l n b) = l
  elements_of (refused r) = []

  abbrev pub has_count : ℕ → Answer (List M) → Bool
  has_count c (took l n b) = eqb (length l) c
  has_count c (refused r) = false
