-- The items are cut short where `Meaning.Forms` says so.
-- Assumes nothing.
use Rattle.std.specs.Prelude.{◌≡◌, refl, ◌↔◌, ◌⊎◌, Bool, true, false, cond, List, ℕ, ◌+◌, ◌-◌, ◌*◌, ◌≤◌, leb, length}
use Rattle.std.proofs.Common.{sym, ap, subst, ◌∙◌, inl, inr, arith, le-leb, leb-true, leb-false}
use Rattle.std.proofs.lemmas.Bool.{lt-leb}
use Rattle.xdr.specs.Meaning.Bytes.{Bytes, number_at, padding}
use Rattle.xdr.specs.Meaning.Answer.{Answer, took, refused, map_answer}
use Rattle.xdr.specs.Meaning.Refusal.{cut_short, Cut}
use Rattle.xdr.specs.Meaning.Forms.{CountedCut}
use Rattle.xdr.specs.Meaning.Items.{number, opaque, words}
use Rattle.xdr.specs.Meaning.Pieces.{bytes_in, piece_at, words_in, word_piece_at}
use Rattle.xdr.specs.Laws.Promise.{keeps}
use Rattle.xdr.specs.Laws.Takes.{view-cut, seen}
use Rattle.xdr.specs.Laws.Pieces.{piece-agrees}
use Rattle.xdr.specs.Laws.Words.{words-agrees}
use Rattle.xdr.specs.declared.refusal.Refusal.{Refusal}

-- a refused answer was one that tests the room and finds too little
module _ {A : Type 0} (x : A) (q : ℕ) (b : Bool) (s : List ℕ) (p : ℕ) (r : Refusal) where
  -- room for a length word, and then for what it says
  counted-there : (n : ℕ) (t u : Bool) → leb 4 (length s - p) ≡ t → leb n (length s - p) ≡ u
      → cond t (cond u (took x q b) (refused (cut_short n s p))) (refused (cut_short 4 s p)) ≡ refused r
      → Cut 4 s p r ⊎ ((4 ≤ length s - p) × Cut n s p r)
  counted-there n true true d e f = let y : ◌≡◌ {A = ℕ} 0 1 = cc in absurd (omega arith)
  counted-there n true false d e f =
      let g : cut_short n s p ≡ r = cc in
      inr (leb-true 4 (length s - p) d, record { is = sym g; short = leb-false n (length s - p) e })
  counted-there n false u d e f = let g : cut_short 4 s p ≡ r = cc in inl (record { is = sym g; short = leb-false 4 (length s - p) d })

  counted_back : (n : ℕ) → Cut 4 s p r ⊎ ((4 ≤ length s - p) × Cut n s p r)
      → cond (leb 4 (length s - p)) (cond (leb n (length s - p)) (took x q b) (refused (cut_short n s p))) (refused (cut_short 4 s p)) ≡ refused r
  counted_back n (inl c) = rw (lt-leb 4 (length s - p) c.short, c.is)
  counted_back n (inr c) = rw (le-leb 4 (length s - p) c.0, lt-leb n (length s - p) c.1.short, c.1.is)

-- a number
pub number_cut : (k : ℕ) (s : List ℕ) (p : ℕ) (r : Refusal) → (number k).kind.Fault s p r ↔ Cut k s p r
unfolding number
number_cut k s p r = (view-cut _ _ (λ l. seen) s p r, λ c. inl c)

-- a held reading that is refused
map-refused : {A B : Type 0} (f : A → B) (z : Answer A) {r : Refusal} → map_answer f z ≡ refused r → z ≡ refused r
map-refused f (took a n b) {r} e = let z : ◌≡◌ {A = ℕ} 0 1 = cc in absurd (omega arith)
map-refused f (refused q) {r} e = let g : q ≡ r = cc in ap refused g

-- an opaque: its bytes and their padding
opaque-room : (s : List ℕ) (p : ℕ) → 4 + number_at 4 s p + padding (number_at 4 s p) ≡ 4 + (number_at 4 s p + padding (number_at 4 s p))
opaque-room s p = omega arith

pub opaque-cut : (s : List ℕ) (p : ℕ) (r : Refusal) → Bytes s → opaque.kind.Fault s p r ↔ CountedCut (λ n. n + padding n) s p r
opaque-cut s p r h = (there, back)
  where
    there : opaque.kind.Fault s p r → CountedCut (λ n. n + padding n) s p r
    there c =
        let e = map-refused (bytes_in s) (piece_at s p) (sym (piece-agrees s p) ∙ ((keeps opaque).fault_iff s p r h).1 c) in
        subst (λ (k : ℕ). Cut 4 s p r ⊎ ((4 ≤ length s - p) × Cut k s p r)) (opaque-room s p)
        (counted-there _ _ _ s p r (4 + number_at 4 s p + padding (number_at 4 s p)) _ _ refl refl e)

    back : CountedCut (λ n. n + padding n) s p r → opaque.kind.Fault s p r
    back c =
        let w = subst (λ (k : ℕ). Cut 4 s p r ⊎ ((4 ≤ length s - p) × Cut k s p r)) (sym (opaque-room s p)) c in
        ((keeps opaque).fault_iff s p r h).0
        (piece-agrees s p ∙ ap (map_answer (bytes_in s)) (counted_back _ _ _ s p r (4 + number_at 4 s p + padding (number_at 4 s p)) w))

-- a word list: its words
pub words-cut : (s : List ℕ) (p : ℕ) (r : Refusal) → Bytes s → words.kind.Fault s p r ↔ CountedCut (λ n. n * 4) s p r
words-cut s p r h = (there, back)
  where
    there : words.kind.Fault s p r → CountedCut (λ n. n * 4) s p r
    there c =
        let e = map-refused (words_in s) (word_piece_at s p) (sym (words-agrees s p) ∙ ((keeps words).fault_iff s p r h).1 c) in
        counted-there _ _ _ s p r (4 + number_at 4 s p * 4) _ _ refl refl e

    back : CountedCut (λ n. n * 4) s p r → words.kind.Fault s p r
    back c =
        ((keeps words).fault_iff s p r h).0 (words-agrees s p ∙ ap (map_answer (words_in s)) (counted_back _ _ _ s p r (4 + number_at 4 s p * 4) c))
