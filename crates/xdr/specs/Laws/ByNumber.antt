-- Items that are read by the number in front, by the answer of the call that reads it: each law is in the shape of a reader's goal.
-- Assumes nothing.
use Rattle.std.specs.Prelude.{◌≡◌, refl, Bool, true, not, List, ℕ, ◌+◌, ◌*◌, ◌-◌, ◌/◌, ◌≤◌, ◌<◌, ◌%◌, eqb, ltb, ℤ, length, get_or, Result, Err}
use Rattle.std.proofs.Common.{sym, ap, ◌∙◌, arith, Fits, SFits, to_z, of_z}
use Rattle.std.specs.Int.{w8, w32, w64}
use Rattle.std.proofs.lemmas.Int.{to_z-of_z}
use Rattle.std.specs.Result.{result_from_control_flow}
use Rattle.std.specs.declared.ops.ControlFlow.{ControlFlow}
use Rattle.std.specs.declared.ops.ControlFlow.TheVariants.{Continue}
use Rattle.xdr.specs.Meaning.Bytes.{signed, number_at, padding}
use Rattle.xdr.specs.Meaning.Refusal.{cut_short}
use Rattle.xdr.specs.Meaning.Answer.{Answer, took, refused}
use Rattle.xdr.specs.Meaning.Items.{word, hyper, flag, int, long}
use Rattle.xdr.specs.Meaning.Formats.{piece_held, words_held}
use Rattle.xdr.specs.Meaning.Pieces.{piece_answer}
use Rattle.xdr.specs.Meaning.Views.{view}
use Rattle.xdr.specs.Laws.Answers.{was-ok, on, off, word-on, hyper-on, word-within, flag-took, int-took, long-took, piece-took, words-short}
use Rattle.xdr.specs.Laws.Padding.{last_zeros, padded, body-short, body-took}
use Rattle.xdr.specs.declared.piece.Piece.{Piece}
use Rattle.xdr.specs.declared.refusal.Refusal.{Refusal}
use Rattle.xdr.specs.declared.answer.Took.{Took}

-- the number is refused, and so is the item
module _ {A T : Type 0} {f : List ℕ → ℕ → Answer A} {g : List ℕ → ℕ → Answer T}
    (keeps : (s : List ℕ) (p : ℕ) (q : Refusal) → f s p ≡ refused q → refused q ≡ g s p) (s : List ℕ) (p : ℕ) (r : Result (Took A) Refusal) (q : Refusal) where
  pub passed : view r ≡ f s p → r ≡ Err q → refused q ≡ g s p
  passed e h = keeps s p q (off e h)

-- the word is taken
module _ (s : List ℕ) (p : ℕ) (r : Result (Took ℕ) Refusal) (x : Took ℕ) (c : ControlFlow _ (Took ℕ)) (e : view r ≡ word.kind.read s p) (t : r ≡ result_from_control_flow c) (g : c ≡ Continue x) where
  pub by_flag : took (not (eqb x.value 0)) x.next (ltb x.value 2) ≡ flag.kind.read s p
  by_flag = flag-took s p (word-on s p e (was-ok t g))

  pub by_int : (z : ℤ) → SFits w32 z → z ≡ signed 2147483648 x.value → took (to_z w32 (of_z w32 z)) x.next true ≡ int.kind.read s p
  by_int z h i = int-took s p (to_z-of_z w32 z h ∙ i) (word-on s p e (was-ok t g))

  pub by-room : p + 4 ≤ length s
  by-room = omega (arith, word-within s p (on e (was-ok t g)))

  pub by-piece : (a : Answer Piece) → a ≡ piece_answer s p x.value → a ≡ piece_held.read s p
  by-piece a h = h ∙ piece-took s p (on e (was-ok t g))

  pub by_next : x.next ≤ length s
  by_next = omega (arith, word-within s p (on e (was-ok t g)))

  pub by-words-room : length s - x.next < x.value * 4 → length s - p < 4 + x.value * 4
  by-words-room h = omega (arith, word-within s p (on e (was-ok t g)))

  pub by-words-short : (q : Refusal) → length s - x.next < x.value * 4 → q ≡ cut_short (4 + x.value * 4) s p → refused q ≡ words_held.read s p
  by-words-short q h i = ap refused i ∙ words-short s p (on e (was-ok t g)) h

-- the hyper is taken
module _ (s : List ℕ) (p : ℕ) (r : Result (Took ℕ) Refusal) (x : Took ℕ) (c : ControlFlow _ (Took ℕ)) (e : view r ≡ hyper.kind.read s p) (t : r ≡ result_from_control_flow c) (g : c ≡ Continue x) where
  pub by-long : (z : ℤ) → SFits w64 z → z ≡ signed 9223372036854775808 x.value → took (to_z w64 (of_z w64 z)) x.next true ≡ long.kind.read s p
  by-long z h i = long-took s p (to_z-of_z w64 z h ∙ i) (hyper-on s p e (was-ok t g))

-- the bytes of an opaque behind its length word, by the test of room for them
module _ (s : List ℕ) (p n : ℕ) (h : p + 4 ≤ length s) where
  pub body-off : (q : Refusal) → length s - p - 4 < (n + 3) / 4 * 4 → q ≡ cut_short (4 + (n + 3) / 4 * 4) s p → refused q ≡ piece_answer s p n
  body-off q r f =
      let e : 4 + (n + 3) / 4 * 4 ≡ 4 + n + padding n = omega (arith, padded n) in
      ap refused f ∙ ap (λ (k : ℕ). refused (cut_short k s p)) e ∙ body-short s p n (omega (arith, padded n))

  pub body-on : (b : Bool) → ((i : ℕ) → Fits w8 (get_or s i 0)) → (n + 3) / 4 * 4 ≤ length s - p - 4
      → b ≡ last_zeros (number_at 4 s (p + (n + 3) / 4 * 4)) (padding n) → took (record { at = p + 4; count = n; clean = b }) (p + 4 + (n + 3) / 4 * 4) b ≡ piece_answer s p n
  body-on b given r f = body-took s (λ i. omega (arith, given i)) p n _ refl (omega arith) f

  -- of whole words, which have no padding
  module _ (even : n % 4 ≡ 0) where
    whole : (n + 3) / 4 * 4 ≡ n
    whole = omega arith

    pub whole-off : (q : Refusal) → length s - p - 4 < n → q ≡ cut_short (4 + n) s p → refused q ≡ piece_answer s p n
    whole-off q r f = body-off q (omega (arith, whole)) (f ∙ ap (λ k. cut_short (4 + k) s p) (sym whole))

    pub whole-on : ((i : ℕ) → Fits w8 (get_or s i 0)) → n ≤ length s - p - 4 → took (record { at = p + 4; count = n; clean = true }) (p + 4 + n) true ≡ piece_answer s p n
    whole-on given r =
        let none : padding n ≡ 0 = omega arith in
        let z : true ≡ last_zeros (number_at 4 s (p + (n + 3) / 4 * 4)) (padding n) = sym (ap (last_zeros (number_at 4 s (p + (n + 3) / 4 * 4))) none) in
        ap (λ k. took (record { at = p + 4; count = n; clean = true }) (p + 4 + k) true) (sym whole) ∙ body-on true given (omega (arith, whole)) z
