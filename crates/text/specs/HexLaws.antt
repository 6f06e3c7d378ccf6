-- What follows of `Spells`: how it grows at the end, its lengths, and its digits; and a byte's own two digits spell it.
-- Assumes nothing.
use Rattle.std.specs.Prelude.{◌≡◌, refl, List, [], ◌∷◌, ◌++◌, ℕ, zero, suc, ◌+◌, ◌-◌, ◌*◌, ◌%◌, ◌≤◌, ◌<◌, length, take, drop, set, get_or, Bool, true, false, None, Some}
use Rattle.std.specs.Bool.{MatchBool}
use Rattle.std.specs.List.{AllWithin, HoldsAt}
use Rattle.std.proofs.Common.{sym, ap, ◌∙◌, subst, subst₂, append_assoc, inl, inr, le_antisymm, not-suc-le-zero, le_of_suc-le-suc, add-one, arith, take_all, take-suc, take-suc-set}
use borrow.Author.Tests.{lt-ltb, le-ltb, le-leb, lt-leb}
use Rattle.text.specs.Hex.{digit_of, Spells, none, byte, Hex, Digits, Unhexes}

-- Each case of `digit_of`.
module _ (c : ℕ) where
  pub below_0 : c < 48 → 16 ≡ digit_of c
  unfolding digit_of
  below_0 a = simp (lt-ltb c 48 a)

  pub to_9 : 48 ≤ c → c ≤ 57 → c - 48 ≡ digit_of c
  unfolding digit_of
  to_9 a b = simp (le-ltb c 48 a, le-leb c 57 b)

  pub below_A : 57 < c → c < 65 → 16 ≡ digit_of c
  unfolding digit_of
  below_A a b = simp (le-ltb c 48 (omega arith), lt-leb c 57 a, lt-ltb c 65 b)

  pub to_F : 65 ≤ c → c ≤ 70 → c - 65 + 10 ≡ digit_of c
  unfolding digit_of
  to_F a b = simp (le-ltb c 48 (omega arith), lt-leb c 57 (omega arith), le-ltb c 65 a, le-leb c 70 b)

  pub below_a : 70 < c → c < 97 → 16 ≡ digit_of c
  unfolding digit_of
  below_a a b = simp (le-ltb c 48 (omega arith), lt-leb c 57 (omega arith), le-ltb c 65 (omega arith), lt-leb c 70 a, lt-ltb c 97 b)

  pub to_f : 97 ≤ c → c ≤ 102 → c - 97 + 10 ≡ digit_of c
  unfolding digit_of
  to_f a b = simp (le-ltb c 48 (omega arith), lt-leb c 57 (omega arith), le-ltb c 65 (omega arith), lt-leb c 70 (omega arith), le-ltb c 97 a, le-leb c 102 b)

  pub past_f : 102 < c → 16 ≡ digit_of c
  unfolding digit_of
  past_f a = simp (le-ltb c 48 (omega arith), lt-leb c 57 (omega arith), le-ltb c 65 (omega arith), lt-leb c 70 (omega arith), le-ltb c 97 (omega arith), lt-leb c 102 a)

pub spells_more : {word bytes : List ℕ} (h l : ℕ) → Spells word bytes → digit_of h < 16 → digit_of l < 16 → Spells (word ++ (h ∷ l ∷ [])) (bytes ++ ((digit_of h * 16 + digit_of l) ∷ []))
spells_more h l none p q = byte p q none
spells_more h l (byte a b s) p q = byte a b (spells_more h l s p q)

pub spells_length : {word bytes : List ℕ} → Spells word bytes → length word ≡ length bytes * 2
spells_length none = refl
spells_length (byte a b s) = let e = spells_length s in omega arith

pub spells_digit : {word bytes : List ℕ} → Spells word bytes → (k : ℕ) → k < length word → digit_of (get_or word k 0) < 16
spells_digit none k h = absurd (not-suc-le-zero h)
spells_digit (byte a b s) zero h = a
spells_digit (byte a b s) (suc zero) h = b
spells_digit (byte a b s) (suc (suc k)) h = spells_digit s k (le_of_suc-le-suc (le_of_suc-le-suc h))

-- one turn of the loop: the next two digits, and the byte that they spell put behind the others
take_two : (word : List ℕ) (i : ℕ) → i * 2 + 1 < length word → take ((i + 1) * 2) word ≡ take (i * 2) word ++ (get_or word (i * 2) 0 ∷ get_or word (i * 2 + 1) 0 ∷ [])
take_two word i h =
    let e : (i + 1) * 2 ≡ suc (suc (i * 2)) = omega arith in
    let s : suc (i * 2) < length word = omega arith in
    let z : i * 2 < length word = omega arith in
    ap (λ (k : ℕ). take k word) e ∙ take-suc word (suc (i * 2)) 0 s
    ∙ ap (λ (l : List ℕ). l ++ (get_or word (suc (i * 2)) 0 ∷ [])) (take-suc word (i * 2) 0 z)
    ∙ append_assoc (take (i * 2) word) (get_or word (i * 2) 0 ∷ []) (get_or word (suc (i * 2)) 0 ∷ [])
    ∙ ap (λ (k : ℕ). take (i * 2) word ++ (get_or word (i * 2) 0 ∷ get_or word k 0 ∷ [])) (sym (add-one (i * 2)))

pub spells_turn : (word out : List ℕ) (i h l : ℕ) → i * 2 + 1 < length word → i < length out → Spells (take (i * 2) word) (take i out)
    → h ≡ digit_of (get_or word (i * 2) 0) → l ≡ digit_of (get_or word (i * 2 + 1) 0) → h < 16 → l < 16
    → Spells (take ((i + 1) * 2) word) (take (i + 1) (set out i (h * 16 + l)))
spells_turn word out i h l long room s eh el ph pl =
    let v = digit_of (get_or word (i * 2) 0) * 16 + digit_of (get_or word (i * 2 + 1) 0) in
    rw (eh, el) (subst₂ Spells (sym (take_two word i long)) (sym (ap (λ (k : ℕ). take k (set out i v)) (add-one i) ∙ take-suc-set out i v room))
    (spells_more (get_or word (i * 2) 0) (get_or word (i * 2 + 1) 0) s (omega arith) (omega arith)))

-- the loop's end
pub spelled_whole : (word out : List ℕ) (i n : ℕ) → i ≤ n → n ≤ i → n * 2 ≡ length word → Spells (take (i * 2) word) (take i out) → Spells word (take n out)
spelled_whole word out i n a b e s =
    let same : i ≡ n = le_antisymm a b in
    subst (λ (w : List ℕ). Spells w (take n out)) (take_all (n * 2) word (omega arith)) (subst (λ (k : ℕ). Spells (take (k * 2) word) (take k out)) same s)

-- What `unhex` answers.

pub never : {A : Type 0} → ◌≡◌ {A = Bool} true false → A
never e = absurd (let z : ◌≡◌ {A = ℕ} 0 1 = cc in omega arith)

pub refuses : {word out : List ℕ} → ((bytes : List ℕ) → length bytes ≤ length out → Hex word bytes → ⊥) → Unhexes word out None out
refuses f = (refl, f)

pub takes : {word out after : List ℕ} (n : ℕ) → length after ≡ length out → n ≤ length after → drop n after ≡ drop n out → Hex word (take n after) → Unhexes word out (Some n) after
takes n l w d h = record { long = l; within = w; rest = d; spelled = h }

-- a word of no character
pub empty_no : {word bytes : List ℕ} → length word ≡ 0 → Hex word bytes → ⊥
empty_no z (inl (e, _)) = omega (arith, ap length e)
empty_no z (inr (some, _)) = omega arith

-- a word of one character that is not `-`
pub alone_no : {word bytes : List ℕ} → length word ≡ 1 → (get_or word 0 0 ≡ 45 → ⊥) → Hex word bytes → ⊥
alone_no z f (inl (e, _)) = f (ap (λ (w : List ℕ). get_or w 0 0) e)
alone_no z f (inr (_, s)) = omega (arith, spells_length s)

pub alone : (word : List ℕ) → length word ≡ 1 → get_or word 0 0 ≡ 45 → word ≡ 45 ∷ []
alone [] z e = absurd (omega arith)
alone (c ∷ []) z e = ap (λ (d : ℕ). d ∷ []) e
alone (c ∷ d ∷ word) z e = absurd (omega arith)

-- a word of more characters spells its bytes
pub long : {word bytes : List ℕ} → 1 < length word → Hex word bytes → Spells word bytes
long h (inl (e, _)) = absurd (omega (arith, ap length e))
long h (inr (_, s)) = s

-- a word that is not `-` spells its bytes
pub spelled : {word bytes : List ℕ} → (word ≡ 45 ∷ [] → ⊥) → Hex word bytes → (0 < length word) × Spells word bytes
spelled f (inl (e, _)) = absurd (f e)
spelled f (inr s) = s

pub odd_spells : {word bytes : List ℕ} → length word % 2 ≡ 1 → Spells word bytes → ⊥
odd_spells e s = omega (arith, spells_length s)

pub room_spells : {word bytes : List ℕ} (n : ℕ) → n * 2 ≤ length word → length bytes < n → Spells word bytes → ⊥
room_spells n e l s = omega (arith, spells_length s)

pub odd_no : {word bytes : List ℕ} → 1 < length word → length word % 2 ≡ 1 → Hex word bytes → ⊥
odd_no h e x = odd_spells e (long h x)

pub room_no : {word bytes : List ℕ} (n : ℕ) → 1 < length word → n * 2 ≤ length word → length bytes < n → Hex word bytes → ⊥
room_no n h e l x = room_spells n e l (long h x)

pub digit_no : {word bytes : List ℕ} (k : ℕ) → k < length word → digit_of (get_or word k 0) ≡ 16 → Spells word bytes → ⊥
digit_no k l e x = omega (arith, spells_digit x k l)

-- what `are_digits` says, by the answer of a search for a character that is no digit
pub digits_by : (word : List ℕ) (r : Bool) → MatchBool r (AllWithin (λ c. digit_of c < 16) word 0 (length word)) ((k : ℕ) × (k < length word) × HoldsAt (λ c. digit_of c ≡ 16) word k) → Digits word r
digits_by word true all = record { all = λ e k l. all k 0 (omega arith) l; not = λ e. absurd (let z : ◌≡◌ {A = ℕ} 0 1 = cc in omega arith) }
digits_by word false (k, l, e) = record { all = λ e. absurd (let z : ◌≡◌ {A = ℕ} 0 1 = cc in omega arith); not = λ e' bytes s. digit_no k l (e 0) s }
