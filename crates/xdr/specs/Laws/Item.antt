-- A number, and a run of as many bytes as it says, are lawful as one item.
-- Assumes nothing.
use Rattle.std.specs.Prelude.{◌≡◌, refl, ◌⊎◌, Bool, List, ◌++◌, ℕ, ◌+◌, ◌-◌, ◌≤◌, ◌<◌, length}
use Rattle.std.proofs.Common.{sym, ap, subst, ◌∙◌, inl, inr, arith}
use Rattle.xdr.specs.Meaning.Bytes.{Bytes}
use Rattle.xdr.specs.Meaning.Answer.{Answer, took, refused, Reaches, Came}
use Rattle.xdr.specs.Meaning.Kind.{Kind, Sound, Lawful}
use Rattle.xdr.specs.Meaning.Refusal.{OfReading, moved_to, TooFew, less_by, Cut}
use Rattle.xdr.specs.Meaning.Combinators.{first, second, Behind, chain_kind, whole, run_kind, Takes, item_kind}
use Rattle.xdr.specs.Laws.Lists.{stands-grow, stands-inside}
use Rattle.xdr.specs.Laws.Cuts.{cut-whole, at-end}
use Rattle.xdr.specs.Laws.Chain.{chain-lawful}
use Rattle.xdr.specs.Laws.Run.{run-lawful}
use Rattle.xdr.specs.declared.refusal.Refusal.{Refusal}
use Rattle.xdr.specs.declared.refusal.Refusal.TheVariants.{Ended, Undeclared, TooLong, Outside, NoRoom, Unfit, Overrun, NotCall, PastEnd, LongPath}

-- a refusal at another place
moved-of : (p : ℕ) (r : Refusal) → OfReading r → OfReading (moved_to p r)
moved-of p (Ended q w) h = tt
moved-of p (Undeclared q) h = tt
moved-of p TooLong h = h
moved-of p Outside h = h
moved-of p (NoRoom n) h = h
moved-of p Unfit h = h
moved-of p Overrun h = h
moved-of p NotCall h = h
moved-of p PastEnd h = h
moved-of p (LongPath q) h = tt

moved-few : (p k : ℕ) (r : Refusal) → TooFew k (moved_to p r) → TooFew k r
moved-few p k r h = λ q w e. h p w (ap (moved_to p) e)

moved-less : (p k : ℕ) (r : Refusal) → less_by k (moved_to p r) ≡ moved_to p (less_by k r)
moved-less p k (Ended q w) = refl
moved-less p k (Undeclared q) = refl
moved-less p k TooLong = refl
moved-less p k Outside = refl
moved-less p k (NoRoom n) = refl
moved-less p k Unfit = refl
moved-less p k Overrun = refl
moved-less p k NotCall = refl
moved-less p k PastEnd = refl
moved-less p k (LongPath q) = refl

-- one that is a 1 was one, and wanted as much
record WasEnded (p q w : ℕ) (r : Refusal) : Type 0 where
  place : ℕ
  was : r ≡ Ended place w
  now : q ≡ p

never : {P : Type 0} → ◌≡◌ {A = ℕ} 0 1 → P
never e = absurd (omega arith)

was-ended : (p q w : ℕ) (r : Refusal) → Ended q w ≡ moved_to p r → WasEnded p q w r
was-ended p q w (Ended i j) e = record { place = i; was = ap (λ (x : ℕ). Ended i x) (cc); now = cc }
was-ended p q w (Undeclared i) e = never (cc)
was-ended p q w TooLong e = never (cc)
was-ended p q w Outside e = never (cc)
was-ended p q w (NoRoom n) e = never (cc)
was-ended p q w Unfit e = never (cc)
was-ended p q w Overrun e = never (cc)
was-ended p q w NotCall e = never (cc)
was-ended p q w PastEnd e = never (cc)
was-ended p q w (LongPath i) e = never (cc)

module _ {N : ℕ → Type 0} (A : Kind ℕ) (B : (n : ℕ) → Kind (N n)) (size : ℕ → ℕ) (LA : Lawful A) (TA : Takes 4 A)
    (cut : (s : List ℕ) (p : ℕ) (r : Refusal) → A.Fault s p r → Cut 4 s p r) (LB : (n : ℕ) → Lawful (B n))
    (TB : (n : ℕ) → Takes (size n) (B n)) where
  abbrev R : (n : ℕ) → Kind (N n)
  R n = run_kind (size n) (B n)

  runs : (n : ℕ) → Lawful (R n)
  runs n = run-lawful (size n) (B n) (LB n) (TB n)

  abbrev K : Kind ((n : ℕ) × N n)
  K = chain_kind A R

  L : Lawful K
  L = chain-lawful A R LA runs

  whole-sound : (s : List ℕ) (p : ℕ) (x : Answer ((n : ℕ) × N n)) → Sound K s p x → Sound (item_kind K) s p (whole p x)
  whole-sound s p (took m n b) f =
      record {
        loose = f.loose;
        used = f.used;
        left = f.left;
        stands = f.stands;
        next = f.next;
        form = f.form;
        plain = f.plain;
      }
  whole-sound s p (refused r) f = (r, f, refl)

  item-ended : (s : List ℕ) (p q w : ℕ) → p ≤ length s → (item_kind K).Fault s p (Ended q w) → (p ≤ q) × (q ≤ length s) × (0 < w)
  item-ended s p q w h f =
      let g = was-ended p q w f.0 f.2 in
      let k = L.ended s p g.place w h (subst (K.Fault s p) g.was f.1) in
      let e : q ≡ p = g.now in
      (omega arith, omega arith, k.2)

  item-few : (s t : List ℕ) (p : ℕ) (r : Refusal) → p ≤ length s → (item_kind K).Fault s p r → TooFew (length t) r
      → (item_kind K).Fault (s ++ t) p (less_by (length t) r)
  item-few s t p r h f g = (
    less_by (length t) f.0,
    L.few s t p f.0 h f.1 (moved-few p (length t) f.0 (subst (TooFew (length t)) f.2 g)),
    ap (less_by (length t)) f.2 ∙ moved-less p (length t) f.0,
  )

  -- the length word was cut, and has come: there is nothing behind it yet
  module _ (s t : List ℕ) (p : ℕ) (b : Bytes (s ++ t)) (short : length s - p < 4) (all : p + 4 ≡ length (s ++ t)) where
    run-there : (v n : ℕ) (d : Bool) → n ≡ length (s ++ t) → (y : Answer (N v)) → Sound (R v) (s ++ t) n y → Came s t p (whole p (second A R v d y))
    run-there v n d e (took c k d') f = inl (at-end (R v) (runs v) (s ++ t) n e (took c k d') f)
    run-there v n d e (refused r) f =
        inr
        (record {
          cut = short;
          whole = all;
          wanting = size v - (length (s ++ t) - n);
          is = ap (λ (x : Refusal). refused (moved_to p x)) f.is;
        })

    word-there : (x : Answer ℕ) → Sound A (s ++ t) p x → Came s t p (whole p (first A R (s ++ t) x))
    word-there (took v n d) f =
        let e : n ≡ length (s ++ t) = omega (arith, f.next, TA.long v f.loose f.used f.form) in
        run-there v n d e ((R v).read (s ++ t) n) ((runs v).sound (s ++ t) n b)
    word-there (refused r) f = absurd (omega (arith, TA.short (s ++ t) p r f))

  -- the length word was there, and all that it counts has come
  module _ (s t : List ℕ) (p : ℕ) (v n : ℕ) (all : n + size v ≡ length (s ++ t)) where
    body-there : (d : Bool) (y : Answer (N v)) → Sound (R v) (s ++ t) n y → Reaches (length (s ++ t)) (whole p (second A R v d y))
    body-there d (took c k d') f = omega (arith, f.next, (TB v).long c f.loose f.used f.form)
    body-there d (refused r) f = absurd (omega (arith, f.short))

  came-there : (s t : List ℕ) (p q w : ℕ) → p ≤ length s → Bytes (s ++ t) → A.Fault s p (Ended q w) ⊎ Behind A R s p (Ended q w) → length t ≡ w
      → Came s t p (whole p (first A R (s ++ t) (A.read (s ++ t) p)))
  came-there s t p q w h b (inl f) e =
      let c = cut s p (Ended q w) f in
      let g = cut-whole 4 s t p q w h c e in
      word-there s t p b c.short g.1 (A.read (s ++ t) p) (LA.sound (s ++ t) p b)
  came-there s t p q w h b (inr f) e =
      let v : ℕ = f.message in
      let n : ℕ = p + length f.used in
      let k : n ≤ length s = stands-inside f.used f.left s p h f.stands in
      let g = cut-whole (size v) s t n q w k f.fault e in
      let i = LA.complete v f.loose f.used (f.left ++ t) (s ++ t) p f.form (stands-grow f.used f.left s t p h f.stands) in
      inl (rw i (body-there s t p v n g.1 _ ((R v).read (s ++ t) n) ((runs v).sound (s ++ t) n b)))

  item-enough : (s t : List ℕ) (p q w : ℕ) → p ≤ length s → Bytes (s ++ t) → (item_kind K).Fault s p (Ended q w) → length t ≡ w
      → Came s t q ((item_kind K).read (s ++ t) p)
  item-enough s t p q w h b f e =
      let g = was-ended p q w f.0 f.2 in
      rw g.now (came-there s t p g.place w h b (subst (K.Fault s p) g.was f.1) e)

  pub item-lawful : Lawful (item_kind K)
  item-lawful =
      record {
        sound = λ s p h. whole-sound s p (K.read s p) (L.sound s p h);
        complete = λ m w e t s p f h. ap (whole p) (L.complete m w e t s p f h);
        refuses = λ s p r f. rw (L.refuses s p f.0 f.1, f.2);
        numbered = λ s p r f. subst OfReading (sym f.2) (moved-of p f.0 (L.numbered s p f.0 f.1));
        alike = L.alike;
        good = L.good;
        written = L.written;
        plain = L.plain;
        ended = item-ended;
        few = item-few;
        enough = item-enough;
      }
