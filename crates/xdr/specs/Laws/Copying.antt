-- Bytes copied one by one, and in runs that may overlap.
-- Assumes nothing.
use Rattle.std.specs.Prelude.{◌≡◌, refl, List, [], ◌∷◌, ◌++◌, ℕ, zero, suc, ◌+◌, ◌-◌, ◌/◌, ◌≤◌, min, length, get_or, set, take, drop}
use Rattle.std.proofs.Common.{sym, ap, ap₂, ◌∙◌, append_assoc, arith, length-drop, length-take-le, take-take, drop-drop, take-add, drop-cons}
use Rattle.std.proofs.lemmas.List.{take-append-le, set_split}
use Rattle.std.proofs.Math.Seq.{drop-append-add}
use Rattle.xdr.specs.Meaning.Public.{laid}
use Rattle.xdr.specs.Laws.Write.{Put, start, put-length, laid-at}
use Rattle.xdr.specs.Laws.Lays.{after, tail_of}

-- a run byte by byte, as code reads it: at p, p + 1, p + 2
abbrev run_from : ℕ → List ℕ → ℕ → ℕ → List ℕ
run_from zero s p i = []
run_from (suc k) s p i = get_or s (p + i) 0 ∷ run_from k s p (i + 1)

abbrev run_at : ℕ → List ℕ → ℕ → List ℕ
run_at zero s p = []
run_at (suc k) s p = get_or s p 0 ∷ run_from k s p 1

run-from : (k : ℕ) (s : List ℕ) (p i : ℕ) → p + i + k ≤ length s → take k (drop (p + i) s) ≡ run_from k s p i
run-from zero s p i h = refl
run-from (suc k) s p i h =
    let next : suc (p + i) ≡ p + (i + 1) = omega arith in
    rw (drop-cons s (p + i) 0 (omega arith)) (ap (λ l. get_or s (p + i) 0 ∷ l) (ap (λ j. take k (drop j s)) next ∙ run-from k s p (i + 1) (omega arith)))

run-at : (k : ℕ) (s : List ℕ) (p : ℕ) → p + k ≤ length s → take k (drop p s) ≡ run_at k s p
run-at zero s p h = refl
run-at (suc k) s p h =
    let next : suc p ≡ p + 1 = omega arith in
    rw (drop-cons s p 0 (omega arith)) (ap (λ l. get_or s p 0 ∷ l) (ap (λ j. take k (drop j s)) next ∙ run-from k s p 1 (omega arith)))

pub none-copied : (s xs : List ℕ) → length s ≡ 0 → xs ≡ take (length s) s ++ drop (length s) xs
none-copied s xs e = rw e

-- a run of k bytes from j on, where the first i are there, makes them the first n
abbrev Next : List ℕ → ℕ → ℕ → ℕ → ℕ → Type 0
Next s i j k n = (j ≤ i) × (i ≤ n) × (j + k ≡ n) × (n ≤ length s)

module _ (s xs : List ℕ) (room : length s ≤ length xs) where
  fill : {ys zs : List ℕ} {i : ℕ} (j k n : ℕ) → Put xs ys i (take i s) → Next s i j k n → zs ≡ take j ys ++ (take k (drop j s) ++ drop (j + k) ys)
      → Put xs zs n (take n s)
  fill {ys} {i = i} j k n f h l =
      let front : take j ys ≡ take j s = ap (take j) f.is ∙ take-append-le j (take i s) (drop i xs) (omega (arith, f.long)) ∙ take-take j i s h.0 in
      let q : j + k ≡ length (take i s) + (n - i) = omega (arith, f.long) in
      let m : i + (n - i) ≡ n = omega arith in
      let back : drop (j + k) ys ≡ drop n xs =
      ap₂ drop q f.is ∙ drop-append-add (take i s) (drop i xs) (n - i) ∙ drop-drop (n - i) i xs ∙ ap (λ m. drop m xs) m in
      record {
        is =
            l ∙ ap₂ (λ u v. u ++ (take k (drop j s) ++ v)) front back ∙ sym (append_assoc (take j s) (take k (drop j s)) (drop n xs))
            ∙ ap (λ u. u ++ drop n xs) (sym (take-add j k s) ∙ ap (λ m. take m s) h.2);
        long = length-take-le n s (omega arith);
      }

  -- by a function that is lent the tail
  fill-run : {ys z : List ℕ} {i : ℕ} (j k n : ℕ) → Put xs ys i (take i s) → Next s i j k n → z ≡ laid (take k (drop j s)) (tail_of j ys)
      → Put xs (after j ys z) n (take n s)
  fill-run {ys} j k n f h l =
      let long : length (take k (drop j s)) ≡ k = length-take-le k (drop j s) (omega (arith, length-drop j s)) in
      let size : length ys ≡ length xs = put-length f (omega arith) in
      fill j k n f h (laid-at ys (take k (drop j s)) j (omega arith) l ∙ ap (λ m. take j ys ++ (take k (drop j s) ++ drop (j + m) ys)) long)

  -- by a store
  fill-byte : {ys : List ℕ} {i : ℕ} (j n : ℕ) → Put xs ys i (take i s) → Next s i j 1 n → Put xs (set ys j (get_or s j 0)) n (take n s)
  fill-byte {ys} j n f h =
      let size : length ys ≡ length xs = put-length f (omega arith) in
      let next : suc j ≡ j + 1 = omega arith in
      fill j 1 n f h
      (set_split ys j (get_or s j 0) (omega arith) ∙ ap₂ (λ l m. take j ys ++ (l ++ drop m ys)) (sym (run-at 1 s j (omega arith))) next)

  -- the first, the middle one and the last, of at most three
  pub few-copied : (length s ≡ 0 → ⊥) → length s ≤ 3
      → set (set (set xs 0 (get_or s 0 0)) (length s / 2) (get_or s (length s / 2) 0)) (length s - 1) (get_or s (length s - 1) 0)
      ≡ take (length s) s ++ drop (length s) xs
  few-copied some few =
      let a = fill-byte 0 1 (start xs) (omega arith) in
      let b = fill-byte (length s / 2) (length s / 2 + 1) a (omega arith) in
      (fill-byte (length s - 1) (length s) b (omega arith)).is

  -- two runs of k, where the first m are there
  two_runs : {ys y z : List ℕ} (k m i j n : ℕ) → ys ≡ take m s ++ drop m xs → Next s m i k (i + k) × Next s (i + k) j k n
      → y ≡ laid (take k (drop i s)) (tail_of i ys) → z ≡ laid (take k (drop j s)) (tail_of j (after i ys y))
      → after j (after i ys y) z ≡ take n s ++ drop n xs
  two_runs {ys} k m i j n e h f g =
      let p : Put xs ys m (take m s) = record { is = e; long = length-take-le m s (omega arith) } in
      (fill-run j k n (fill-run i k (i + k) p h.0 f) h.1 g).is

-- the first k bytes and the last k, of at most twice k
pub two_ends : (k : ℕ) (s xs y z : List ℕ) → k ≤ length s → length s ≤ k + k → length s ≤ length xs → y ≡ laid (take k (drop 0 s)) (tail_of 0 xs)
    → z ≡ laid (take k (drop (length s - k) s)) (tail_of (length s - k) (after 0 xs y))
    → after (length s - k) (after 0 xs y) z ≡ take (length s) s ++ drop (length s) xs
two_ends k s xs y z low high room f g = two_runs s xs room k 0 0 (length s - k) (length s) refl (omega arith) f g

-- of four runs of sixteen, the first two and the last two
module _ (s xs y z : List ℕ) (i : ℕ) (low : 16 ≤ length s) (room : length s ≤ length xs) where
  pub front-runs : i ≡ min (length s - 16) 16 → y ≡ laid (take 16 (drop 0 s)) (tail_of 0 xs) → z ≡ laid (take 16 (drop i s)) (tail_of i (after 0 xs y))
      → after i (after 0 xs y) z ≡ take (min (length s) 32) s ++ drop (min (length s) 32) xs
  front-runs e f g = two_runs s xs room 16 0 0 i (min (length s) 32) refl (omega arith) f g

  pub back-runs : (ys : List ℕ) → length s ≤ 64 → i ≡ min (length s - 16) 32 → ys ≡ take (min (length s) 32) s ++ drop (min (length s) 32) xs
      → y ≡ laid (take 16 (drop i s)) (tail_of i ys) → z ≡ laid (take 16 (drop (length s - 16) s)) (tail_of (length s - 16) (after i ys y))
      → after (length s - 16) (after i ys y) z ≡ take (length s) s ++ drop (length s) xs
  back-runs ys high e p f g = two_runs s xs room 16 (min (length s) 32) i (length s - 16) (length s) p (omega arith) f g
