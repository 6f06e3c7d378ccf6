-- A turn of the assembler's loop: a header byte is one step of the rules, and a piece of a fragment is as many steps as it has bytes.
-- Assumes nothing.
use Rattle.std.specs.Prelude.{◌≡◌, refl, Bool, true, false, length, get_or, set, take, drop}
use Rattle.std.proofs.Common.{sym, ap, ◌∙◌, subst, add-zero, add-one, arith, length-drop, length-take, drop_of_length-le, drop-cons, drop-drop, take_all, length-take-le}
use mathlib.Core.List.{List, [], ◌∷◌, ◌++◌, foldl, append-nil, append_assoc}
use Prim.Native.Nat.{ℕ, zero, suc, ◌+◌, ◌-◌, ◌*◌, ◌^◌, ◌≤◌, ◌<◌, min}
use Rattle.std.proofs.Math.Nat.{sub-zero}
use Rattle.std.proofs.lemmas.List.Edits.{sets, sets-eq}
use Rattle.std.proofs.Math.Seq.{length-sets}
use borrow.Rule.Slice.PartMut.{mid_of, put_mid}
use Rattle.rpcwire.specs.Meaning.Stream.{Said, more, stand, feed_of, advance, after, step_at, header_byte, settled, fits_of}
use Rattle.rpcwire.specs.Meaning.Promise.{used_said}
use Rattle.rpcwire.specs.Laws.Fits.{Fit, fit}
use Rattle.rpcwire.specs.Laws.Steps.{begin-more, Ended, walk-ended, Sound, sound-step, sound-settled, used_step, used-settled}
use Rattle.rpcwire.specs.declared.assembler.Assembler.{Assembler}

-- k bytes of a fragment at once
pub copied-walk : (k c p l : ℕ) (e : Bool) (d bs : List ℕ) (u : ℕ) → k ≤ l → k ≤ length bs
    → foldl advance (stand (settled c p l e u) d) bs ≡ foldl advance (stand (settled c (p + k) (l - k) e (u + k)) (sets d p (take k bs))) (drop k bs)
unfolding advance after settled step_at
copied-walk zero c p l e d bs u h1 h2 = rw (add-zero p, add-zero u, sub-zero l)
copied-walk (suc k) c p zero e d bs u h1 h2 = absurd (omega arith)
copied-walk (suc k) c p (suc l) e d [] u h1 h2 = absurd (omega arith)
copied-walk (suc k) c p (suc l) e d (b ∷ bs) u h1 h2 =
    let e1 : p + 1 + k ≡ p + suc k = omega arith in
    let e2 : l - k ≡ suc l - suc k = omega arith in
    let e3 : u + 1 + k ≡ u + suc k = omega arith in
    let e4 : p + 1 ≡ suc p = omega arith in
    copied-walk k c (p + 1) l e (set d p b) bs (u + 1) (omega arith) (omega arith)
    ∙ rw (e1, e2, e3, e4)

-- any state with bytes left steps like the fragment's own
as_settled : (l : ℕ) (s : Assembler) (d bs : List ℕ) (u : ℕ) → s.left ≡ l → 0 < l → 0 < length bs
    → foldl advance (stand (more s u) d) bs ≡ foldl advance (stand (settled s.capacity s.placed l s.last u) d) bs
unfolding advance after settled step_at
as_settled zero s d bs u e h1 h2 = absurd (omega arith)
as_settled (suc l) s d [] u e h1 h2 = absurd (omega arith)
as_settled (suc l) s d (b ∷ bs) u e h1 h2 = ap (λ (n : ℕ). foldl advance (step_at n s d b (u + 1)) bs) e

-- a piece of a fragment: n bytes from place i of the run
pub turn-bytes : (s : Assembler) (run d : List ℕ) (i n : ℕ) → 0 < n → n ≤ s.left → i + n ≤ length run → s.placed + n ≤ length d
    → foldl advance (stand (more s i) d) (drop i run)
    ≡ foldl advance (stand (settled s.capacity (s.placed + n) (s.left - n) s.last (i + n)) (sets d s.placed (take n (drop i run)))) (drop (i + n) run)
turn-bytes s run d i n h1 h2 h3 h4 =
    let h : n ≤ length (drop i run) = simp length-drop (omega arith) in
    as_settled s.left s d (drop i run) i refl (omega arith) (omega arith)
    ∙ copied-walk n s.capacity s.placed s.left s.last d (drop i run) i h2 h
    ∙ ap (λ (x : List ℕ). foldl advance (stand (settled s.capacity (s.placed + n) (s.left - n) s.last (i + n)) (sets d s.placed (take n (drop i run)))) x) (drop-drop n i run)

header-step : (s : Assembler) (d : List ℕ) (b : ℕ) (bs : List ℕ) (u : ℕ) → s.left ≡ 0
    → foldl advance (stand (more s u) d) (b ∷ bs) ≡ foldl advance (stand (header_byte s.capacity s.placed s.header_count (s.header_value * 256 + b) (u + 1)) d) bs
unfolding advance after step_at
header-step s d b bs u h = ap (λ (n : ℕ). foldl advance (step_at n s d b (u + 1)) bs) h

-- a header byte
pub turn-header : (s : Assembler) (run d : List ℕ) (i : ℕ) → s.left ≡ 0 → i < length run
    → foldl advance (stand (more s i) d) (drop i run)
    ≡ foldl advance (stand (header_byte s.capacity s.placed s.header_count (s.header_value * 256 + get_or run i 0) (i + 1)) d) (drop (i + 1) run)
turn-header s run d i h1 h2 =
    ap (λ (x : List ℕ). foldl advance (stand (more s i) d) x) (drop-cons run i 0 h2)
    ∙ header-step s d (get_or run i 0) (drop (suc i) run) i h1
    ∙ ap (λ (k : ℕ). foldl advance (stand (header_byte s.capacity s.placed s.header_count (s.header_value * 256 + get_or run i 0) (i + 1)) d) (drop k run)) (sym (add-one i))

-- the loop's invariant: the rest of the run, fed from here, ends as the whole run does
pub record Going (s₀ : Assembler) (run d₀ d : List ℕ) (s : Assembler) (i : ℕ) : Type 0 where
  pub same : foldl advance (stand (more s₀ 0) d₀) run ≡ foldl advance (stand (more s i) d) (drop i run)
  pub inside : i ≤ length run
  pub fits : Fit s (length d)
  pub long : length d ≡ length d₀

-- a turn has made the answer f and the buffer d, with j bytes of the run used
pub record Turned (s₀ : Assembler) (run d₀ : List ℕ) (f : Said) (d : List ℕ) (j : ℕ) : Type 0 where
  pub same : foldl advance (stand (more s₀ 0) d₀) run ≡ foldl advance (stand f d) (drop j run)
  pub used : used_said f ≡ j
  pub inside : j ≤ length run
  pub sound : Sound f d
  pub long : length d ≡ length d₀

module _ (s₀ : Assembler) (run d₀ d : List ℕ) (s : Assembler) (i : ℕ) (g : Going s₀ run d₀ d s i) where
  pub header-turned : s.left ≡ 0 → i < length run → get_or run i 0 < 256
      → Turned s₀ run d₀ (header_byte s.capacity s.placed s.header_count (s.header_value * 256 + get_or run i 0) (i + 1)) d (i + 1)
  unfolding step_at
  header-turned h1 h2 h3 =
      record {
        same = g.same ∙ turn-header s run d i h1 h2;
        used = used_step zero s d (get_or run i 0) (i + 1);
        inside = omega arith;
        sound = sound-step zero s d (get_or run i 0) (i + 1) h1 g.fits h3;
        long = g.long;
      }

  pub bytes-turned : (n : ℕ) → n ≡ min s.left (length run - i) → (s.left ≡ 0 → ⊥) → i < length run
      → Turned s₀ run d₀ (settled s.capacity (s.placed + n) (s.left - n) s.last (i + n)) (sets d s.placed (take n (drop i run))) (i + n)
  bytes-turned n e h1 h2 =
      let f = g.fits in
      let h3 : n ≤ length (drop i run) = simp length-drop (omega arith) in
      let h4 : s.placed + n ≤ length d = omega (arith, f) in
      let h5 : length (sets d s.placed (take n (drop i run))) ≡ length d = length-sets d s.placed (take n (drop i run)) in
      record {
        same = g.same ∙ turn-bytes s run d i n (omega arith) (omega arith) (omega arith) h4;
        used = used-settled s.capacity (s.placed + n) (s.left - n) s.last (i + n);
        inside = omega arith;
        sound = sound-settled s.capacity (s.placed + n) (s.left - n) s.last (sets d s.placed (take n (drop i run))) (i + n) (f.whole ∙ sym h5) f.small (omega (arith, f)) (omega (arith, f));
        long = h5 ∙ g.long;
      }

module _ (s₀ : Assembler) (run d₀ : List ℕ) (f : Said) (d : List ℕ) (j : ℕ) (t : Turned s₀ run d₀ f d j) where
  pub turned-out : Ended f → foldl advance (stand (more s₀ 0) d₀) run ≡ stand f d
  turned-out h = t.same ∙ walk-ended f d (drop j run) h

  pub turned-used : (s : Assembler) (u : ℕ) → f ≡ more s u → u ≡ j
  turned-used s u e = sym (ap used_said e) ∙ t.used

  pub turned_on : (s : Assembler) (u : ℕ) → f ≡ more s u → Going s₀ run d₀ d s u
  turned_on s u e =
      record {
        same = t.same ∙ ap (λ (x : Said). foldl advance (stand x d) (drop j run)) e ∙ ap (λ (k : ℕ). foldl advance (stand (more s u) d) (drop k run)) (sym (turned-used s u e));
        inside = omega (arith, turned-used s u e, t.inside);
        fits = fit s (length d) (subst (λ (x : Said). Sound x d) e t.sound).0;
        long = t.long;
      }

-- the loop begins where the state fits and is not stopped
pub going : (s : Assembler) (run d : List ℕ) → fits_of s (length d) ≡ true → Going s run d d s 0
going s run d h = record { same = refl; inside = omega arith; fits = fit s (length d) h; long = refl }

pub feed-begun : (s : Assembler) (run d : List ℕ) → fits_of s (length d) ≡ true → s.stopped ≡ false → foldl advance (stand (more s 0) d) run ≡ feed_of s run d
unfolding feed_of
feed-begun s run d h k = rw (begin-more s (length d) h k)

pub feed-over : (s : Assembler) (run d₀ d : List ℕ) (s' : Assembler) (i : ℕ) → Going s run d₀ d s' i → length run ≤ i → foldl advance (stand (more s 0) d₀) run ≡ stand (more s' i) d
feed-over s run d₀ d s' i g h = g.same ∙ ap (λ (x : List ℕ). foldl advance (stand (more s' i) d) x) (drop_of_length-le run h)

-- the header's value before its fourth byte
pub value-bound : (s : Assembler) (n : ℕ) → Fit s n → s.header_value < 16777216
value-bound s n f = low s.header_count f.few f.value
  where
    low : (k : ℕ) → k ≤ 3 → s.header_value < 256 ^ k → s.header_value < 16777216
    low zero h v = omega arith
    low (suc zero) h v = omega arith
    low (suc (suc zero)) h v = omega arith
    low (suc (suc (suc zero))) h v = omega arith
    low (suc (suc (suc (suc k)))) h v = absurd (omega arith)

-- a part of the run copied to the front of the buffer's tail is stored from the tail's place on
tail-is : (a : ℕ) (xs : List ℕ) → mid_of a (length xs - a) xs ≡ drop a xs
tail-is a xs = take_all (length xs - a) (drop a xs) (omega (arith, length-drop a xs))

pub tail-stored : (a : ℕ) (xs f ys : List ℕ) → a + length f ≤ length xs → ys ≡ take (length f) f ++ drop (length f) (mid_of a (length xs - a) xs)
    → put_mid a (length xs - a) xs ys ≡ sets xs a f
tail-stored a xs f ys h e =
    let over : length (drop a xs) ≤ length xs - a = omega (arith, length-drop a xs) in
    let none : drop (length xs - a) (drop a xs) ≡ [] = drop_of_length-le (drop a xs) over in
    ap (λ (z : List ℕ). take a xs ++ (ys ++ z)) none
    ∙ ap (λ (z : List ℕ). take a xs ++ z) (append-nil ys)
    ∙ ap (λ (z : List ℕ). take a xs ++ z) e
    ∙ ap (λ (z : List ℕ). take a xs ++ (z ++ drop (length f) (mid_of a (length xs - a) xs))) (take_all (length f) f (omega arith))
    ∙ ap (λ (z : List ℕ). take a xs ++ (f ++ drop (length f) z)) (tail-is a xs)
    ∙ ap (λ (z : List ℕ). take a xs ++ (f ++ z)) (drop-drop (length f) a xs)
    ∙ sym (append_assoc (take a xs) f (drop (a + length f) xs))
    ∙ sym (sets-eq f xs a h)

-- the part fits in the tail
pub part-fits : (run buf : List ℕ) (i k p : ℕ) → i + k ≤ length run → p + k ≤ length buf
    → length (take (i + k - i) (drop i run)) ≤ length (mid_of p (length buf - p) buf)
part-fits run buf i k p h g =
    let a : length (take (i + k - i) (drop i run)) ≤ i + k - i = subst (λ (n : ℕ). n ≤ i + k - i) (sym (length-take (i + k - i) (drop i run))) (omega arith) in
    let b : length (mid_of p (length buf - p) buf) ≡ length buf - p = ap length (tail-is p buf) ∙ length-drop p buf in
    omega arith

pub part-stored : (run buf : List ℕ) (i k p : ℕ) (ys : List ℕ) → i + k ≤ length run → p + k ≤ length buf
    → ys ≡ take (length (take (i + k - i) (drop i run))) (take (i + k - i) (drop i run))
    ++ drop (length (take (i + k - i) (drop i run))) (mid_of p (length buf - p) buf)
    → put_mid p (length buf - p) buf ys ≡ sets buf p (take k (drop i run))
part-stored run buf i k p ys h g e =
    let f : List ℕ = take (i + k - i) (drop i run) in
    let m : i + k - i ≡ k = omega arith in
    let long : length f ≡ i + k - i = length-take-le (i + k - i) (drop i run) (omega (arith, length-drop i run)) in
    tail-stored p buf f ys (omega arith) e ∙ ap (λ (n : ℕ). sets buf p (take n (drop i run))) m

pub moved_on : (len i n left u : ℕ) → n ≡ min left (len - i) → (left ≡ 0 → ⊥) → i < len → u ≡ i + n → len - u < len - i
moved_on len i n left u h k l e = omega arith
