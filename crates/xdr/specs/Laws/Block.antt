-- Bytes as they stand are lawful.
-- Assumes nothing.
use Rattle.std.specs.Prelude.{◌≡◌, refl, Bool, true, false, cond, List, [], ◌++◌, ℕ, ◌+◌, ◌-◌, ◌≤◌, leb, length, take, drop}
use Rattle.std.proofs.Common.{sym, ap, subst, ◌∙◌, inl, add-zero, arith, le-leb, leb-true, leb-false, length-drop, take-append-drop, take_at, length-take-le}
use Rattle.std.proofs.lemmas.Bool.{lt-leb}
use Rattle.xdr.specs.Meaning.Bytes.{Bytes, Stands}
use Rattle.xdr.specs.Meaning.Refusal.{OfReading, cut_short, Cut}
use Rattle.xdr.specs.Meaning.Answer.{took, refused, Came, Loose, clean}
use Rattle.xdr.specs.Meaning.Kind.{Sound, Lawful}
use Rattle.xdr.specs.Meaning.Combinators.{block_kind, void_kind}
use Rattle.xdr.specs.Laws.Lists.{bytes_take, bytes_drop, room}
use Rattle.xdr.specs.Laws.Cuts.{cut-ended, cut-few, cut-whole}
use Rattle.xdr.specs.declared.refusal.Refusal.{Refusal}
use Rattle.xdr.specs.declared.refusal.Refusal.TheVariants.{Ended}

module _ (n : ℕ) where
  block-sound : (s : List ℕ) (p : ℕ) → Bytes s → (t : Bool) → leb n (length s - p) ≡ t
      → Sound (block_kind n) s p (cond t (took (take n (drop p s)) (p + n) true) (refused (cut_short n s p)))
  block-sound s p h false e = record { is = refl; short = leb-false n (length s - p) e }
  block-sound s p h true e =
      let size : length (take n (drop p s)) ≡ n =
      length-take-le n (drop p s) (rw (length-drop p s) (leb-true n (length s - p) e)) in
      record {
        loose = [];
        used = take n (drop p s);
        left = drop n (drop p s);
        stands = sym (take-append-drop n (drop p s));
        next = ap (λ (k : ℕ). p + k) (sym size);
        form = (refl, refl, record { size = size; bytes = bytes_take n (drop p s) (bytes_drop p s h) });
        plain = refl;
      }

  block-complete : (l : List ℕ) (w : List Loose) (e t s : List ℕ) (p : ℕ) → (block_kind n).Form l w e → Stands e t s p
      → (block_kind n).read s p ≡ took l (p + length e) (clean w)
  block-complete l w e t s p f h =
      let size : length e ≡ n = ap length f.1 ∙ f.2.size in
      simp (le-leb n (length s - p) (omega (arith, room e t s p h)), h, take_at e t n size, size, f.0, ← f.1)

  block-refuses : (s : List ℕ) (p : ℕ) (r : Refusal) → (block_kind n).Fault s p r → (block_kind n).read s p ≡ refused r
  block-refuses s p r f = simp (lt-leb n (length s - p) f.short, f.is)

  block-enough : (s t : List ℕ) (p q w : ℕ) → p ≤ length s → Cut n s p (Ended q w) → length t ≡ w → Came s t q ((block_kind n).read (s ++ t) p)
  block-enough s t p q w h c e =
      let g = cut-whole n s t p q w h c e in
      inl (rw (le-leb n (length (s ++ t) - p) (omega (arith, g.1))) g.1)

  pub block-lawful : Lawful (block_kind n)
  block-lawful =
      record {
        sound = λ s p h. block-sound s p h (leb n (length s - p)) refl;
        complete = block-complete;
        refuses = block-refuses;
        numbered = λ s p r f. subst OfReading (sym f.is) tt;
        alike = λ l l' w w' e f f'. f.0 ∙ sym f'.0;
        good = λ l w e f. f.2;
        written = λ l g. (refl, refl, g);
        plain = λ l e f. f.1;
        ended = cut-ended n;
        few = cut-few n;
        enough = λ s t p q w h b c e. block-enough s t p q w h c e;
      }

void-complete : (u : Unit {0}) (w : List Loose) (e t s : List ℕ) (p : ℕ) → void_kind.Form u w e → Stands e t s p
    → void_kind.read s p ≡ took u (p + length e) (clean w)
void-complete u w e t s p f h = simp (f.0, f.1, add-zero)

pub void-lawful : Lawful void_kind
void-lawful =
    record {
      sound = λ s p h.
          record { loose = []; used = []; left = drop p s; stands = refl; next = sym (add-zero p); form = (refl, refl); plain = refl };
      complete = void-complete;
      refuses = λ s p r f. absurd f;
      numbered = λ s p r f. absurd f;
      alike = λ u u' w w' e f f'. f.0 ∙ sym f'.0;
      good = λ u w e f. tt;
      written = λ u g. (refl, refl);
      plain = λ u e f. f.1;
      ended = λ s p q w h f. absurd f;
      few = λ s t p r h f g. absurd f;
      enough = λ s t p q w h b f e. absurd f;
    }
