-- Steps of the stream rules, one and many: answers that are final, the count used, the states made, and the buffer.
-- Assumes nothing.
use Rattle.std.specs.Prelude.{◌≡◌, refl, Bool, true, false, cond, ℕ, zero, suc, ◌+◌, ◌-◌, ◌*◌, ◌%◌, ◌≤◌, ◌<◌, leb, ltb, length, set, take, drop}
use Rattle.std.proofs.Common.{sym, ap, ◌∙◌, subst, add_assoc, le_refl, arith, length-set, drop-set-lt, take-take, drop-drop, ltb-true, leb-true}
use mathlib.Core.List.{List, [], ◌∷◌, foldl}
use Rattle.std.proofs.Math.Seq.{take-nil}
use Rattle.std.proofs.lemmas.List.{take-set-le}
use Rattle.xdr.specs.Meaning.Bytes.{Bytes}
use Rattle.xdr.specs.Meaning.Answer.{most}
use Rattle.rpcwire.specs.Meaning.Stream.{Said, more, complete, refused, Now, stand, fresh, in_header, in_fragment, begin, advance, after, step_at, header_byte, headed, settled, fits_of}
use Rattle.rpcwire.specs.Meaning.Promise.{used_said, placed_said, shift_said, shift, Kept}
use Rattle.rpcwire.specs.Laws.Fits.{Fit, fit, fits-header, fits-fragment, fits-halted, more-value}
use Rattle.rpcwire.specs.declared.assembler.Assembler.{Assembler}
use Rattle.xdr.specs.declared.refusal.Refusal.TheVariants.{Unfit, Overrun}

-- before the first byte
pub begin-more : (s : Assembler) (n : ℕ) → fits_of s n ≡ true → s.stopped ≡ false → begin s n ≡ more s 0
unfolding begin
begin-more s n h k = simp (h, k)

pub begin-stopped : (s : Assembler) (n : ℕ) → fits_of s n ≡ true → s.stopped ≡ true → begin s n ≡ refused Overrun s 0
unfolding begin
begin-stopped s n h k = simp (h, k)

pub begin-misfit : (s : Assembler) (n : ℕ) → fits_of s n ≡ false → begin s n ≡ refused Unfit s 0
unfolding begin
begin-misfit s n h = simp h

-- where a fragment's bytes lead, by case
pub settled-done : (c p l : ℕ) (e : Bool) (u : ℕ) → l ≡ 0 → e ≡ true → settled c p l e u ≡ complete p (fresh c) u
unfolding settled
settled-done c p zero true u h k = refl
settled-done c p zero false u h k = let z : ◌≡◌ {A = ℕ} 0 1 = cc in absurd (omega arith)
settled-done c p (suc l) e u h k = absurd (omega arith)

pub settled-next : (c p l : ℕ) (e : Bool) (u : ℕ) → l ≡ 0 → e ≡ false → settled c p l e u ≡ more (in_header c p 0 0) u
unfolding settled
settled-next c p zero true u h k = let z : ◌≡◌ {A = ℕ} 0 1 = cc in absurd (omega arith)
settled-next c p zero false u h k = refl
settled-next c p (suc l) e u h k = absurd (omega arith)

pub settled_on : (c p l : ℕ) (e : Bool) (u : ℕ) → 0 < l → settled c p l e u ≡ more (in_fragment c p l e) u
unfolding settled
settled_on c p zero e u h = absurd (omega arith)
settled_on c p (suc l) e u h = refl

-- ---- an answer other than "more" is final

abbrev pub Ended : Said → Type 0
Ended (more s u) = ⊥
Ended (complete n s u) = Unit {0}
Ended (refused r s u) = Unit {0}

advance-ended : (f : Said) (d : List ℕ) (b : ℕ) → Ended f → advance (stand f d) b ≡ stand f d
unfolding advance after
advance-ended (more s u) d b h = absurd h
advance-ended (complete n s u) d b h = refl
advance-ended (refused r s u) d b h = refl

pub walk-ended : (f : Said) (d : List ℕ) (bs : List ℕ) → Ended f → foldl advance (stand f d) bs ≡ stand f d
walk-ended f d [] h = refl
walk-ended f d (b ∷ bs) h = ap (λ (n : Now). foldl advance n bs) (advance-ended f d b h) ∙ walk-ended f d bs h

-- ---- the count used only counts

shift-pick : (k : ℕ) (t : Bool) (a b : Said) → shift_said k (cond t a b) ≡ cond t (shift_said k a) (shift_said k b)
shift-pick k true a b = refl
shift-pick k false a b = refl

shift-settled : (k c p l : ℕ) (e : Bool) (u : ℕ) → shift_said k (settled c p l e u) ≡ settled c p l e (k + u)
unfolding settled
shift-settled k c p zero true u = refl
shift-settled k c p zero false u = refl
shift-settled k c p (suc l) e u = refl

shift-headed : (k c p w u : ℕ) → shift_said k (headed c p w u) ≡ headed c p w (k + u)
unfolding headed
shift-headed k c p w u = shift-pick k (leb (w % 2147483648) (c - p)) _ _ ∙ simp shift-settled

shift-byte : (k c p n w u : ℕ) → shift_said k (header_byte c p n w u) ≡ header_byte c p n w (k + u)
unfolding header_byte
shift-byte k c p n w u = shift-pick k (ltb n 3) _ _ ∙ simp shift-headed

shift-step : (k l : ℕ) (s : Assembler) (d : List ℕ) (b u : ℕ) → shift k (step_at l s d b u) ≡ step_at l s d b (k + u)
unfolding step_at
shift-step k zero s d b u = ap (λ (f : Said). stand f d) (shift-byte k s.capacity s.placed s.header_count (s.header_value * 256 + b) u)
shift-step k (suc l) s d b u = ap (λ (f : Said). stand f (set d s.placed b)) (shift-settled k s.capacity (s.placed + 1) l s.last u)

shift-after : (k : ℕ) (f : Said) (d : List ℕ) (b : ℕ) → shift k (after f d b) ≡ after (shift_said k f) d b
unfolding after
shift-after k (more s u) d b = shift-step k s.left s d b (u + 1) ∙ ap (λ (n : ℕ). step_at s.left s d b n) (sym (add_assoc k u 1))
shift-after k (complete n s u) d b = refl
shift-after k (refused r s u) d b = refl

pub shift-walk : (k : ℕ) (n : Now) (bs : List ℕ) → shift k (foldl advance n bs) ≡ foldl advance (shift k n) bs
unfolding advance
shift-walk k n [] = refl
shift-walk k n (b ∷ bs) = shift-walk k (advance n b) bs ∙ ap (λ (m : Now). foldl advance m bs) (shift-after k n.said n.held b)

-- ---- every state that a feed makes fits the buffer, so that it can be fed again

abbrev pub Sound : Said → List ℕ → Type 0
Sound (more s u) d = (fits_of s (length d) ≡ true) × (s.stopped ≡ false)
Sound (complete n s u) d = (fits_of s (length d) ≡ true) × (s.stopped ≡ false) × (n ≤ length d)
Sound (refused r s u) d = (fits_of s (length d) ≡ true) × (s.stopped ≡ true) × (r ≡ Overrun)

abbrev pub SoundNow : Now → Type 0
SoundNow n = Sound n.said n.held

pub sound-settled : (c p l : ℕ) (e : Bool) (d : List ℕ) (u : ℕ) → c ≡ length d → c ≤ most → p ≤ c → l ≤ c - p → Sound (settled c p l e u) d
unfolding settled
sound-settled c p zero true d u h1 h2 h3 h4 = (fits-header c 0 0 0 (length d) h1 h2 (omega arith) (omega arith) (omega arith), refl, omega arith)
sound-settled c p zero false d u h1 h2 h3 h4 = (fits-header c p 0 0 (length d) h1 h2 h3 (omega arith) (omega arith), refl)
sound-settled c p (suc l) e d u h1 h2 h3 h4 = (fits-fragment c p (suc l) e (length d) h1 h2 h3 h4 (omega arith), refl)

sound-pick : (t : Bool) (a b : Said) (d : List ℕ) → (t ≡ true → Sound a d) → (t ≡ false → Sound b d) → Sound (cond t a b) d
sound-pick true a b d ha hb = ha refl
sound-pick false a b d ha hb = hb refl

sound-headed : (c p w : ℕ) (d : List ℕ) (u : ℕ) → c ≡ length d → c ≤ most → p ≤ c → Sound (headed c p w u) d
unfolding headed
sound-headed c p w d u h1 h2 h3 =
    sound-pick (leb (w % 2147483648) (c - p)) _ _ d
    (λ t. sound-settled c p (w % 2147483648) _ d u h1 h2 h3 (leb-true _ _ t))
    (λ t. (fits-halted c p (length d) h1 h2 h3, refl, refl))

pub sound-step : (l : ℕ) (s : Assembler) (d : List ℕ) (b u : ℕ) → s.left ≡ l → Fit s (length d) → b < 256 → SoundNow (step_at l s d b u)
unfolding step_at header_byte
sound-step zero s d b u e f hb =
    sound-pick (ltb s.header_count 3) _ _ d
    (λ t. (
      fits-header s.capacity s.placed (s.header_count + 1) (s.header_value * 256 + b) (length d) f.whole f.small f.room
          (omega (arith, ltb-true s.header_count 3 t)) (more-value _ _ b (ltb-true _ _ t) f.value hb),
      refl,
    ))
    (λ t. sound-headed s.capacity s.placed (s.header_value * 256 + b) d u f.whole f.small f.room)
sound-step (suc l) s d b u e f hb =
    sound-settled s.capacity (s.placed + 1) l s.last (set d s.placed b) u
    (f.whole ∙ sym (length-set d s.placed b)) f.small (omega (arith, f)) (omega (arith, f))

sound-after : (f : Said) (d : List ℕ) (b : ℕ) → b < 256 → Sound f d → SoundNow (after f d b)
unfolding after
sound-after (more s u) d b hb h = sound-step s.left s d b (u + 1) refl (fit s (length d) h.0) hb
sound-after (complete n s u) d b hb h = h
sound-after (refused r s u) d b hb h = h

pub sound-walk : (n : Now) (bs : List ℕ) → Bytes bs → SoundNow n → SoundNow (foldl advance n bs)
unfolding advance
sound-walk n [] hb h = h
sound-walk n (b ∷ bs) hb h = sound-walk (advance n b) bs hb.1 (sound-after n.said n.held b hb.0 h)

-- ---- the count used

abbrev pub used : Now → ℕ
used n = used_said n.said

used-pick : (t : Bool) (a b : Said) (u : ℕ) → used_said a ≡ u → used_said b ≡ u → used_said (cond t a b) ≡ u
used-pick true a b u ha hb = ha
used-pick false a b u ha hb = hb

pub used-settled : (c p l : ℕ) (e : Bool) (u : ℕ) → used_said (settled c p l e u) ≡ u
unfolding settled
used-settled c p zero true u = refl
used-settled c p zero false u = refl
used-settled c p (suc l) e u = refl

used-headed : (c p w u : ℕ) → used_said (headed c p w u) ≡ u
unfolding headed
used-headed c p w u = used-pick (leb (w % 2147483648) (c - p)) _ _ u (used-settled c p (w % 2147483648) _ u) refl

pub used_step : (l : ℕ) (s : Assembler) (d : List ℕ) (b u : ℕ) → used (step_at l s d b u) ≡ u
unfolding step_at header_byte
used_step zero s d b u = used-pick (ltb s.header_count 3) _ _ u refl (used-headed s.capacity s.placed (s.header_value * 256 + b) u)
used_step (suc l) s d b u = used-settled s.capacity (s.placed + 1) l s.last u

-- an advance uses the byte or is at the end
used-after : (f : Said) (d : List ℕ) (b : ℕ) → (used_said f ≤ used (after f d b)) × (used (after f d b) ≤ used_said f + 1)
unfolding after
used-after (more s u) d b = let h = used_step s.left s d b (u + 1) in (omega arith, omega arith)
used-after (complete n s u) d b = omega arith
used-after (refused r s u) d b = omega arith

pub used-walk : (n : Now) (bs : List ℕ) → (used n ≤ used (foldl advance n bs)) × (used (foldl advance n bs) ≤ used n + length bs)
unfolding advance
used-walk n [] = (le_refl _, omega arith)
used-walk n (b ∷ bs) =
    let h = used-walk (advance n b) bs in
    let k = used-after n.said n.held b in
    (omega arith, omega arith)

-- what comes after the bytes used plays no part
cut-more : (s : Assembler) (u : ℕ) (d : List ℕ) (b : ℕ) (bs : List ℕ) (m : ℕ)
    → m ≡ used (foldl advance (step_at s.left s d b (u + 1)) bs)
    → foldl advance (step_at s.left s d b (u + 1)) (take (m - (u + 1)) bs) ≡ foldl advance (step_at s.left s d b (u + 1)) bs
    → foldl advance (stand (more s u) d) (take (m - u) (b ∷ bs)) ≡ foldl advance (stand (more s u) d) (b ∷ bs)
unfolding advance after
cut-more s u d b bs m e ih =
    let low = (used-walk (step_at s.left s d b (u + 1)) bs).0 in
    let one = used_step s.left s d b (u + 1) in
    let h : m - u ≡ suc (m - (u + 1)) = omega arith in
    ap (λ (k : ℕ). foldl advance (stand (more s u) d) (take k (b ∷ bs))) h ∙ ih

cut-ended : (f : Said) (d bs xs : List ℕ) → Ended f → foldl advance (stand f d) xs ≡ foldl advance (stand f d) bs
cut-ended f d bs xs h = walk-ended f d xs h ∙ sym (walk-ended f d bs h)

cut-said : (f : Said) (d : List ℕ) (b : ℕ) (bs : List ℕ)
    → foldl advance (advance (stand f d) b) (take (used (foldl advance (advance (stand f d) b) bs) - used (advance (stand f d) b)) bs) ≡ foldl advance (advance (stand f d) b) bs
    → foldl advance (stand f d) (take (used (foldl advance (stand f d) (b ∷ bs)) - used_said f) (b ∷ bs)) ≡ foldl advance (stand f d) (b ∷ bs)
unfolding advance after
cut-said (more s u) d b bs ih =
    cut-more s u d b bs (used (foldl advance (step_at s.left s d b (u + 1)) bs)) refl
    (ap (λ (k : ℕ). foldl advance (step_at s.left s d b (u + 1)) (take (used (foldl advance (step_at s.left s d b (u + 1)) bs) - k) bs)) (sym (used_step s.left s d b (u + 1))) ∙ ih)
cut-said (complete n s u) d b bs ih = cut-ended (complete n s u) d (b ∷ bs) (take (used (foldl advance (stand (complete n s u) d) (b ∷ bs)) - u) (b ∷ bs)) tt
cut-said (refused r s u) d b bs ih = cut-ended (refused r s u) d (b ∷ bs) (take (used (foldl advance (stand (refused r s u) d) (b ∷ bs)) - u) (b ∷ bs)) tt

pub cut-walk : (n : Now) (bs : List ℕ) → foldl advance n (take (used (foldl advance n bs) - used n) bs) ≡ foldl advance n bs
cut-walk n [] = ap (λ (l : List ℕ). foldl advance n l) (take-nil (used n - used n))
cut-walk n (b ∷ bs) = cut-said n.said n.held b bs (cut-walk (advance n b) bs)

pub used-begin : (s : Assembler) (n : ℕ) → used_said (begin s n) ≡ 0
unfolding begin
used-begin s n = used-pick (fits_of s n) _ _ 0 (used-pick s.stopped _ _ 0 refl refl) refl

-- ---- the buffer outside what was placed stays

abbrev pub KeptNow : ℕ → List ℕ → Now → Type 0
KeptNow p d n = Kept p d (placed_said n.said) n.held

kept_same : (p : ℕ) (d : List ℕ) → Kept p d p d
kept_same p d = record { onward = le_refl p; before = refl; beyond = refl }

placed-pick : (t : Bool) (a b : Said) (p : ℕ) → placed_said a ≡ p → placed_said b ≡ p → placed_said (cond t a b) ≡ p
placed-pick true a b p ha hb = ha
placed-pick false a b p ha hb = hb

placed-settled : (c p l : ℕ) (e : Bool) (u : ℕ) → placed_said (settled c p l e u) ≡ p
unfolding settled
placed-settled c p zero true u = refl
placed-settled c p zero false u = refl
placed-settled c p (suc l) e u = refl

placed-byte : (c p n w u : ℕ) → placed_said (header_byte c p n w u) ≡ p
unfolding header_byte headed
placed-byte c p n w u =
    placed-pick (ltb n 3) _ _ p refl
    (placed-pick (leb (w % 2147483648) (c - p)) _ _ p (placed-settled c p (w % 2147483648) _ u) refl)

pub placed-begin : (s : Assembler) (n : ℕ) → placed_said (begin s n) ≡ s.placed
unfolding begin
placed-begin s n = placed-pick (fits_of s n) _ _ s.placed (placed-pick s.stopped _ _ s.placed refl refl) refl

kept_set : (p : ℕ) (d : List ℕ) (b : ℕ) → Kept p d (p + 1) (set d p b)
kept_set p d b = record { onward = omega arith; before = take-set-le p d p b (le_refl p); beyond = drop-set-lt (p + 1) d p b (omega arith) }

kept_step : (l : ℕ) (s : Assembler) (d : List ℕ) (b u : ℕ) → KeptNow s.placed d (step_at l s d b u)
unfolding step_at
kept_step zero s d b u =
    subst (λ (q : ℕ). Kept s.placed d q d) (sym (placed-byte s.capacity s.placed s.header_count (s.header_value * 256 + b) u)) (kept_same s.placed d)
kept_step (suc l) s d b u =
    subst (λ (q : ℕ). Kept s.placed d q (set d s.placed b)) (sym (placed-settled s.capacity (s.placed + 1) l s.last u)) (kept_set s.placed d b)

kept-after : (f : Said) (d : List ℕ) (b : ℕ) → KeptNow (placed_said f) d (after f d b)
unfolding after
kept-after (more s u) d b = kept_step s.left s d b (u + 1)
kept-after (complete n s u) d b = kept_same n d
kept-after (refused r s u) d b = kept_same s.placed d

kept_trans : (p : ℕ) (d : List ℕ) (q : ℕ) (e : List ℕ) (r : ℕ) (f : List ℕ) → Kept p d q e → Kept q e r f → Kept p d r f
kept_trans p d q e r f h k =
    record {
      onward = omega arith;
      before = sym (take-take p q f h.onward) ∙ ap (λ (l : List ℕ). take p l) k.before ∙ take-take p q e h.onward ∙ h.before;
      beyond = k.beyond ∙ later;
    }
  where
    later : drop r e ≡ drop r d
    later =
        let g : r ≡ q + (r - q) = omega arith in
        ap (λ (x : ℕ). drop x e) g ∙ sym (drop-drop (r - q) q e) ∙ ap (λ (l : List ℕ). drop (r - q) l) h.beyond ∙ drop-drop (r - q) q d ∙ ap (λ (x : ℕ). drop x d) (sym g)

pub kept-walk : (n : Now) (bs : List ℕ) → Kept (placed_said n.said) n.held (placed_said (foldl advance n bs).said) (foldl advance n bs).held
unfolding advance
kept-walk n [] = kept_same _ _
kept-walk n (b ∷ bs) =
    kept_trans _ _ _ _ _ _ (kept-after n.said n.held b) (kept-walk (advance n b) bs)
