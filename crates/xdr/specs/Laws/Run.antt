-- A lawful kind as one run of bytes is lawful.
-- Assumes nothing.
use Rattle.std.specs.Prelude.{◌≡◌, refl, Bool, true, false, cond, List, ◌++◌, ℕ, ◌+◌, ◌-◌, ◌≤◌, leb, length}
use Rattle.std.proofs.Common.{sym, subst, inl, arith, le-leb, leb-true, leb-false}
use Rattle.std.proofs.lemmas.Bool.{lt-leb}
use Rattle.xdr.specs.Meaning.Bytes.{Bytes, Stands}
use Rattle.xdr.specs.Meaning.Refusal.{OfReading, cut_short, Cut}
use Rattle.xdr.specs.Meaning.Answer.{Answer, took, refused, Reaches, Came, Loose, clean}
use Rattle.xdr.specs.Meaning.Kind.{Kind, Sound, Lawful}
use Rattle.xdr.specs.Meaning.Combinators.{run_kind, Takes}
use Rattle.xdr.specs.Laws.Lists.{room}
use Rattle.xdr.specs.Laws.Cuts.{cut-ended, cut-few, cut-whole}
use Rattle.xdr.specs.declared.refusal.Refusal.TheVariants.{Ended}

module _ {M : Type 0} (n : ℕ) (K : Kind M) (L : Lawful K) (T : Takes n K) where
  -- where the bytes are there, it reads as K, and takes
  there : (s : List ℕ) (p : ℕ) → n ≤ length s - p → (x : Answer M) → Sound K s p x → Sound (run_kind n K) s p x
  there s p h (took m k b) f =
      record {
        loose = f.loose;
        used = f.used;
        left = f.left;
        stands = f.stands;
        next = f.next;
        form = f.form;
        plain = f.plain;
      }
  there s p h (refused r) f = absurd (omega (arith, T.short s p r f))

  run_sound : (s : List ℕ) (p : ℕ) → Bytes s → (t : Bool) → leb n (length s - p) ≡ t
      → Sound (run_kind n K) s p (cond t (K.read s p) (refused (cut_short n s p)))
  run_sound s p h true e = there s p (leb-true n (length s - p) e) (K.read s p) (L.sound s p h)
  run_sound s p h false e = record { is = refl; short = leb-false n (length s - p) e }

  run-complete : (m : M) (w : List Loose) (e t s : List ℕ) (p : ℕ) → K.Form m w e → Stands e t s p
      → (run_kind n K).read s p ≡ took m (p + length e) (clean w)
  run-complete m w e t s p f h =
      let k : n ≤ length s - p = omega (arith, room e t s p h, T.long m w e f) in
      rw (le-leb n (length s - p) k) (L.complete m w e t s p f h)

  run-reach : (s : List ℕ) (p : ℕ) → p + n ≡ length s → (x : Answer M) → Sound K s p x → Reaches (length s) x
  run-reach s p h (took m k b) f = omega (arith, f.next, T.long m f.loose f.used f.form)
  run-reach s p h (refused r) f = absurd (omega (arith, T.short s p r f))

  run-enough : (s t : List ℕ) (p q w : ℕ) → p ≤ length s → Bytes (s ++ t) → Cut n s p (Ended q w) → length t ≡ w → Came s t q ((run_kind n K).read (s ++ t) p)
  run-enough s t p q w h b c e =
      let g = cut-whole n s t p q w h c e in
      let k : n ≤ length (s ++ t) - p = omega (arith, g.1) in
      inl (rw (le-leb n (length (s ++ t) - p) k) (run-reach (s ++ t) p g.1 (K.read (s ++ t) p) (L.sound (s ++ t) p b)))

  pub run-lawful : Lawful (run_kind n K)
  run-lawful =
      record {
        sound = λ s p h. run_sound s p h (leb n (length s - p)) refl;
        complete = run-complete;
        refuses = λ s p r f. rw (lt-leb n (length s - p) f.short, f.is);
        numbered = λ s p r f. subst OfReading (sym f.is) tt;
        alike = L.alike;
        good = L.good;
        written = L.written;
        plain = L.plain;
        ended = cut-ended n;
        few = cut-few n;
        enough = run-enough;
      }
