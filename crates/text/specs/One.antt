-- Two answers that a contract permits are one: the contracts of `unhex` and `decimal` leave nothing open.
-- Assumes nothing.
use Rattle.std.specs.Prelude.{◌≡◌, refl, List, ◌∷◌, ◌++◌, ℕ, ◌+◌, ◌*◌, ◌≤◌, length, take, drop, None, Some}
use Rattle.std.proofs.Common.{sym, ap, ◌∙◌, inl, inr, arith, take-append-drop, length-take-le}
use Rattle.std.specs.declared.option.Option.{Option}
use Rattle.text.specs.Decimal.{Reads}
use Rattle.text.specs.Hex.{digit_of, Spells, none, byte, Hex, Unhexed, Unhexes}
use Rattle.text.specs.HexLaws.{spells_length}

spells_one : {word a b : List ℕ} → Spells word a → Spells word b → a ≡ b
spells_one none none = refl
spells_one (byte {h} {l} p q s) (byte p' q' t) = ap (λ (m : List ℕ). (digit_of h * 16 + digit_of l) ∷ m) (spells_one s t)

hex_one : {word a b : List ℕ} → Hex word a → Hex word b → a ≡ b
hex_one (inl (_, p)) (inl (_, q)) = p ∙ sym q
hex_one (inl (e, _)) (inr (_, s)) = absurd (omega (arith, ap length e, spells_length s))
hex_one (inr (_, s)) (inl (e, _)) = absurd (omega (arith, ap length e, spells_length s))
hex_one (inr (_, s)) (inr (_, t)) = spells_one s t

module _ {word out : List ℕ} where
  -- what one answer finds, the other does not miss
  some_none : {n : ℕ} {a : List ℕ} → Unhexed word out n a → ((bytes : List ℕ) → length bytes ≤ length out → Hex word bytes → ⊥) → ⊥
  some_none {n} {a} x missed = missed (take n a) (omega (arith, length-take-le n a x.within, x.long)) x.spelled

  some_one : {m n : ℕ} {a b : List ℕ} → Unhexed word out m a → Unhexed word out n b → (m ≡ n) × (a ≡ b)
  some_one {m} {n} {a} {b} x y =
      let front = hex_one x.spelled y.spelled in
      let count : m ≡ n = sym (length-take-le m a x.within) ∙ ap length front ∙ length-take-le n b y.within in
      let end : drop m a ≡ drop n b = x.rest ∙ ap (λ (k : ℕ). drop k out) count ∙ sym y.rest in
      (count, sym (take-append-drop m a) ∙ (λ i. front i ++ end i) ∙ take-append-drop n b)

-- `unhex`: the answer and the buffer
pub unhex_one : (word out : List ℕ) (r s : Option ℕ) (a b : List ℕ) → Unhexes word out r a → Unhexes word out s b → (r ≡ s) × (a ≡ b)
unhex_one word out (Some m) (Some n) a b x y = let e = some_one x y in (ap Some e.0, e.1)
unhex_one word out (Some m) None a b x y = absurd (some_none x y.1)
unhex_one word out None (Some n) a b x y = absurd (some_none y x.1)
unhex_one word out None None a b x y = (refl, x.0 ∙ sym y.0)

-- `decimal`
pub decimal_one : (word : List ℕ) (r s : Option ℕ) → Reads word r → Reads word s → r ≡ s
decimal_one word (Some m) (Some n) x y = ap Some (sym x.1.value ∙ y.1.value)
decimal_one word (Some m) None x y = absurd (y m x.0 x.1)
decimal_one word None (Some n) x y = absurd (x n y.0 y.1)
decimal_one word None None x y = refl
