-- Linked lists and bounds as formats: what the code holds.
-- Assumes nothing.
use Rattle.std.specs.Prelude.{Bool, true, ◌&&◌, List, [], ◌∷◌, ℕ, zero, suc, length}
use Rattle.std.proofs.Math.Option.{Option, none, some}
use Rattle.xdr.specs.Meaning.Answer.{Answer, took, refused, map_answer}
use Rattle.xdr.specs.Meaning.Kind.{Codec}
use Rattle.xdr.specs.Meaning.Held.{Held}
use Rattle.xdr.specs.Meaning.Format.{Format, optional}
use Rattle.xdr.specs.Meaning.Marks.{all_clean}
use Rattle.xdr.specs.declared.piece.Piece.{Piece}
use Rattle.xdr.specs.Meaning.Linked.{linked_kind, elements_of, has_count, placed_at}
use Rattle.xdr.specs.Laws.Linked.{linked-lawful, optional-some, placed-agrees, placed-kept}
use Rattle.xdr.specs.Meaning.Bounded.{cap, bounded_kind}
use Rattle.xdr.specs.Laws.Bounded.{bounded-lawful, bounded-agrees, bounded-kept}

-- the place of the first flag, and how many elements: they mean what is read at that place, and lie inside if as many are read there.
-- `mark s p`: the mark of the list at p
abbrev pub placed : {M : Type 0} (C : Codec (List M)) → (List ℕ → ℕ → Bool) → Held C Piece
placed C mark =
    record {
      read = λ s p. map_answer (placed_at p (mark s p)) (C.kind.read s p);
      mean = λ s x. elements_of (C.kind.read s x.at);
      inside = λ s x. has_count x.count (C.kind.read s x.at);
      marks = λ s x. x.clean ∷ [];
      agrees = λ s p. placed-agrees C s p (mark s p);
      kept = λ s p. placed-kept C s p (mark s p);
    }

-- the mark of a list: every mark in its elements is clean, as they are read one after another. Each takes bytes, so there are no more of them
-- than bytes
module _ {M S : Type 0} (F : Format M S) where
  abbrev pub clean_step : (ℕ → Bool) → List ℕ → Answer (Option S) → Bool
  clean_step more s (took none n b) = true
  clean_step more s (took (some y) n b) = all_clean (F.held.marks s y) && more n
  clean_step more s (refused r) = true

  abbrev pub clean_to : ℕ → List ℕ → ℕ → Bool
  clean_to zero s p = true
  clean_to (suc k) s p = clean_step (clean_to k s) s ((optional F).held.read s p)

  abbrev pub clean_list : List ℕ → ℕ → Bool
  clean_list s p = clean_to (suc (length s)) s p

abbrev pub linked : {M S : Type 0} → Format M S → Codec (List M)
linked F = record { kind = linked_kind (optional F).codec; laws = linked-lawful (optional F).codec (optional-some F) }

-- a list of any format's messages
abbrev pub list_of : {M S : Type 0} → Format M S → Format (List M) Piece
list_of F = record { codec = linked F; held = placed (linked F) (clean_list F) }

-- a format under a bound
abbrev pub bounded : {M S : Type 0} → Format M S → (M → Option ℕ) → Format M S
bounded F over =
    record {
      codec = record { kind = bounded_kind F.codec.kind over; laws = bounded-lawful F.codec.kind over F.codec.laws };
      held =
          record {
            read = λ s p. cap (λ x. over (F.held.mean s x)) p (F.held.read s p);
            mean = F.held.mean;
            inside = F.held.inside;
            marks = F.held.marks;
            agrees = bounded-agrees F.codec over F.held;
            kept = bounded-kept F.codec over F.held;
          };
    }
