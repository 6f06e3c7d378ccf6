-- The promise of feeding holds.
-- Assumes nothing.
use Rattle.std.specs.Prelude.{◌≡◌, refl, ◌↔◌, Bool, true, false, ℕ, zero, suc, ◌+◌, ◌-◌, ◌≤◌, ◌<◌, length, take}
use Rattle.std.proofs.Common.{sym, ap, ◌∙◌, subst, add-zero, arith, length-set}
use mathlib.Core.List.{List, [], ◌∷◌, ◌++◌, foldl, foldl-append}
use Rattle.xdr.specs.Meaning.Bytes.{Bytes}
use Rattle.xdr.specs.Meaning.Answer.{most}
use Rattle.rpcwire.specs.Meaning.Stream.{Said, more, complete, refused, Now, stand, fresh, begin, advance, after, step_at, feed_of, fits_of, Feeds}
use Rattle.rpcwire.specs.Meaning.Promise.{number_said, state_said, shift, resume_said, resume, Promised, Promise}
use Rattle.rpcwire.specs.Laws.Fits.{fits-header}
use Rattle.rpcwire.specs.Laws.Steps.{begin-more, begin-stopped, begin-misfit, walk-ended, shift-walk, Sound, SoundNow, sound-walk, used, used_step, used-walk, used-begin, cut-walk, KeptNow, kept-walk, placed-begin}
use Rattle.rpcwire.specs.declared.assembler.Assembler.{Assembler}
use Rattle.xdr.specs.declared.refusal.Refusal.TheVariants.{Unfit, Overrun}
use Rattle.xdr.specs.Meaning.Refusal.{number_of}

pub fresh-fits : (c : ℕ) → c ≤ most → fits_of (fresh c) c ≡ true
fresh-fits c h = fits-header c 0 0 0 c refl h (omega arith) (omega arith) (omega arith)

sound-begin : (s : Assembler) (d : List ℕ) (t : Bool) → fits_of s (length d) ≡ true → s.stopped ≡ t → Sound (begin s (length d)) d
sound-begin s d true h k = rw (begin-stopped s (length d) h k) (h, k, refl)
sound-begin s d false h k = rw (begin-more s (length d) h k) (h, k)

-- a state that fits, fed bytes: no refusal 6, and each state that comes back fits the buffer that comes back
pub sound : (s : Assembler) (run d : List ℕ) → Bytes run → fits_of s (length d) ≡ true → SoundNow (feed_of s run d)
unfolding feed_of
sound s run d hb h = sound-walk (stand (begin s (length d)) d) run hb (sound-begin s d s.stopped h refl)

pub sound-fits : (f : Said) (d : List ℕ) → Sound f d → fits_of (state_said f) (length d) ≡ true
sound-fits (more s u) d h = h.0
sound-fits (complete n s u) d h = h.0
sound-fits (refused r s u) d h = h.0

sound-number : (f : Said) (d : List ℕ) → Sound f d → number_said f ≡ 6 → ⊥
sound-number (more s u) d h e = omega arith
sound-number (complete n s u) d h e = omega arith
sound-number (refused r s u) d h e = let z = ap number_of h.2 in omega arith

-- refusals before the first byte
pub feed-misfit : (s : Assembler) (run d : List ℕ) → fits_of s (length d) ≡ false → feed_of s run d ≡ stand (refused Unfit s 0) d
unfolding feed_of
feed-misfit s run d h = rw (begin-misfit s (length d) h) (walk-ended (refused Unfit s 0) d run tt)

pub feed-stopped : (s : Assembler) (run d : List ℕ) → fits_of s (length d) ≡ true → s.stopped ≡ true → feed_of s run d ≡ stand (refused Overrun s 0) d
unfolding feed_of
feed-stopped s run d h k = rw (begin-stopped s (length d) h k) (walk-ended (refused Overrun s 0) d run tt)

six-only : (s : Assembler) (run d : List ℕ) (t : Bool) → Bytes run → fits_of s (length d) ≡ t → number_said (feed_of s run d).said ≡ 6 → t ≡ false
six-only s run d true hb h e = absurd (sound-number (feed_of s run d).said (feed_of s run d).held (sound s run d hb h) e)
six-only s run d false hb h e = refl

six-exactly : (s : Assembler) (run d : List ℕ) → Bytes run → number_said (feed_of s run d).said ≡ 6 ↔ fits_of s (length d) ≡ false
six-exactly s run d hb = (six-only s run d (fits_of s (length d)) hb refl, λ h. ap (λ (n : Now). number_said n.said) (feed-misfit s run d h))

-- a run may be cut anywhere
resume-walk : (f : Said) (d run : List ℕ) → Sound f d → foldl advance (stand f d) run ≡ resume_said f d run
unfolding feed_of
resume-walk (more s u) d run h =
    ap (λ (k : ℕ). foldl advance (stand (more s k) d) run) (sym (add-zero u))
    ∙ sym (shift-walk u (stand (more s 0) d) run)
    ∙ ap (λ (f : Said). shift u (foldl advance (stand f d) run)) (sym (begin-more s (length d) h.0 h.1))
resume-walk (complete n s u) d run h = walk-ended (complete n s u) d run tt
resume-walk (refused r s u) d run h = walk-ended (refused r s u) d run tt

feed-append : (s : Assembler) (a b d : List ℕ) → feed_of s (a ++ b) d ≡ foldl advance (feed_of s a d) b
unfolding feed_of
feed-append s a b d = foldl-append advance (stand (begin s (length d)) d) a b

split-at-fit : (s : Assembler) (a b d : List ℕ) → Bytes a → (t : Bool) → fits_of s (length d) ≡ t → feed_of s (a ++ b) d ≡ resume (feed_of s a d) b
split-at-fit s a b d hb true h = feed-append s a b d ∙ resume-walk (feed_of s a d).said (feed_of s a d).held b (sound s a d hb h)
split-at-fit s a b d hb false h = feed-misfit s (a ++ b) d h ∙ sym (ap (λ (n : Now). resume n b) (feed-misfit s a d h))

pub split : (s : Assembler) (a b d : List ℕ) → Bytes a → feed_of s (a ++ b) d ≡ resume (feed_of s a d) b
split s a b d hb = split-at-fit s a b d hb (fits_of s (length d)) refl

-- one byte by itself
pub feed-byte : (s : Assembler) (d : List ℕ) (b : ℕ) → fits_of s (length d) ≡ true → s.stopped ≡ false → feed_of s (b ∷ []) d ≡ step_at s.left s d b (0 + 1)
unfolding feed_of advance after
feed-byte s d b k t = ap (λ (f : Said). advance (stand f d) b) (begin-more s (length d) k t)

pub byte-used : (s : Assembler) (d : List ℕ) (b : ℕ) → fits_of s (length d) ≡ true → s.stopped ≡ false → used (feed_of s (b ∷ []) d) ≡ 1
byte-used s d b k t = ap used (feed-byte s d b k t) ∙ used_step s.left s d b (0 + 1)

used-some : (s : Assembler) (run d : List ℕ) → fits_of s (length d) ≡ true → s.stopped ≡ false → 0 < length run → 0 < used (feed_of s run d)
used-some s [] d k t h = absurd (omega arith)
used-some s (b ∷ bs) d k t h =
    subst (λ (n : Now). 0 < used n) (sym (feed-append s (b ∷ []) bs d)) (omega (arith, (used-walk (feed_of s (b ∷ []) d) bs).0, byte-used s d b k t))

-- the count used
used-bound : (s : Assembler) (run d : List ℕ) → used (feed_of s run d) ≤ length run
unfolding feed_of
used-bound s run d = omega (arith, (used-walk (stand (begin s (length d)) d) run).1, used-begin s (length d))

used-only : (s : Assembler) (run d : List ℕ) → feed_of s (take (used (feed_of s run d)) run) d ≡ feed_of s run d
unfolding feed_of
used-only s run d =
    let n = stand (begin s (length d)) d in
    let h : used (foldl advance n run) ≡ used (foldl advance n run) - used n = omega (arith, used-begin s (length d)) in
    ap (λ (k : ℕ). foldl advance n (take k run)) h ∙ cut-walk n run

-- the buffer
kept-feed : (s : Assembler) (run d : List ℕ) → KeptNow s.placed d (feed_of s run d)
unfolding feed_of
kept-feed s run d =
    let n = stand (begin s (length d)) d in
    subst (λ (p : ℕ). KeptNow p d (foldl advance n run)) (placed-begin s (length d)) (kept-walk n run)

long-step : (l : ℕ) (s : Assembler) (d : List ℕ) (b u : ℕ) → length (step_at l s d b u).held ≡ length d
unfolding step_at
long-step zero s d b u = refl
long-step (suc l) s d b u = length-set d s.placed b

long_after : (f : Said) (d : List ℕ) (b : ℕ) → length (after f d b).held ≡ length d
unfolding after
long_after (more s u) d b = long-step s.left s d b (u + 1)
long_after (complete n s u) d b = refl
long_after (refused r s u) d b = refl

long-walk : (n : Now) (bs : List ℕ) → length (foldl advance n bs).held ≡ length n.held
unfolding advance
long-walk n [] = refl
long-walk n (b ∷ bs) = long-walk (advance n b) bs ∙ long_after n.said n.held b

long-feed : (s : Assembler) (run d : List ℕ) → length (feed_of s run d).held ≡ length d
unfolding feed_of
long-feed s run d = long-walk (stand (begin s (length d)) d) run

pub says : {n m : Now} → n ≡ m → (n.said ≡ m.said) × (n.held ≡ m.held)
says e = (ap (λ (n : Now). n.said) e, ap (λ (n : Now). n.held) e)

pub promised : {s : Assembler} {run d : List ℕ} {f : Said} {d' : List ℕ} → Feeds s run d f d' → Promised s run d f d'
promised {s} {run} {d} {f} {d'} c =
    let e : feed_of s run d ≡ stand f d' = sym c.is in
    let b : Bytes run = c.bytes in
    record {
      one = λ g. says (c.is ∙ sym g.is);
      six_iff = subst (λ (n : Now). number_said n.said ≡ 6 ↔ fits_of s (length d) ≡ false) e (six-exactly s run d b);
      six = λ h. says (c.is ∙ feed-misfit s run d h);
      stays = λ h k. says (c.is ∙ feed-stopped s run d h k);
      again = λ h. sound-fits f d' (subst SoundNow e (sound s run d b h));
      joins = λ next. split s run next d b ∙ ap (λ (n : Now). resume n next) e;
      moves = λ h k n. subst (λ (m : Now). 0 < used m) e (used-some s run d h k n);
      within = subst (λ (n : Now). used n ≤ length run) e (used-bound s run d);
      alone = ap (λ (n : Now). feed_of s (take (used n) run) d) c.is ∙ used-only s run d ∙ e;
      kept = subst (KeptNow s.placed d) e (kept-feed s run d);
      long = sym (ap (λ (n : Now). length n.held) e) ∙ long-feed s run d;
    }

pub holds : Promise
holds = record { starts = fresh-fits; feeds = promised }
