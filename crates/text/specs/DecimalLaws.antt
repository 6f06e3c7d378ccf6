-- What follows of `decimal_of`: a digit more of a word, and that what a word's front stands for is no more than the whole.
-- Assumes nothing.
use Rattle.std.specs.Prelude.{◌≡◌, ℕ, ◌+◌, ◌-◌, ◌*◌, ◌≤◌, ◌<◌, length, take, drop, get_or}
use Rattle.std.proofs.Common.{sym, ap, ◌∙◌, subst, le_refl, le_trans, add-one, arith, take-append-drop, take_all, take-suc}
use mathlib.Core.List.{List, [], ◌∷◌, foldl, foldl-append}
use Rattle.text.specs.Decimal.{further, decimal_of}

pub further_take : (word : List ℕ) (i : ℕ) → i < length word → decimal_of (take (i + 1) word) ≡ further (decimal_of (take i word)) (get_or word i 0)
unfolding decimal_of
further_take word i h =
    ap (λ (k : ℕ). foldl further 0 (take k word)) (add-one i)
    ∙ ap (foldl further 0) (take-suc word i 0 h)
    ∙ foldl-append further 0 (take i word) (get_or word i 0 ∷ [])

grows : (m : ℕ) (word : List ℕ) → m ≤ foldl further m word
grows m [] = le_refl m
grows m (c ∷ word) = le_trans (omega arith) (grows (further m c) word)

pub front_le : (word : List ℕ) (i : ℕ) → decimal_of (take i word) ≤ decimal_of word
unfolding decimal_of
front_le word i =
    subst (λ (k : ℕ). foldl further 0 (take i word) ≤ k)
    (sym (foldl-append further 0 (take i word) (drop i word)) ∙ ap (foldl further 0) (take-append-drop i word))
    (grows (foldl further 0 (take i word)) (drop i word))

-- with the digit at i the number is no more than the whole
pub further_le : (word : List ℕ) (i : ℕ) → i < length word → further (decimal_of (take i word)) (get_or word i 0) ≤ decimal_of word
further_le word i h = subst (λ (k : ℕ). k ≤ decimal_of word) (further_take word i h) (front_le word (i + 1))

-- one turn of the loop
pub turn : (word : List ℕ) (i n d : ℕ) → i < length word → n ≡ decimal_of (take i word) → d ≡ get_or word i 0 - 48 → n * 10 + d ≡ decimal_of (take (i + 1) word)
turn word i n d h e v = rw (e, v) (sym (further_take word i h))

-- the loop's end
pub whole : (word : List ℕ) (i n : ℕ) → length word ≤ i → n ≡ decimal_of (take i word) → decimal_of word ≡ n
whole word i n h e = sym (e ∙ ap decimal_of (take_all i word h))
