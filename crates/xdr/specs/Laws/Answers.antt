-- What the readers' proofs cite: an answer that was taken apart, and an item by its room.
-- Assumes nothing.
use Rattle.std.proofs.Math.Path.{◌≡◌, refl}
use Rattle.std.proofs.Common.{sym, ap, ◌∙◌}
use Rattle.std.specs.Prelude.{Bool, true, false, cond, not, List, leb, ltb, eqb, ℤ, Result, Ok, Err, IsErrAnd}
use Prim.Native.Nat.{ℕ, zero, suc, ◌+◌, ◌*◌, ◌-◌, ◌≤◌, ◌<◌}
use native.Mathlib.Omega.{arith}
use Rattle.std.proofs.lemmas.Result.{err_from_is_err_and}
use Rattle.std.specs.Result.{result_from_control_flow}
use Rattle.std.specs.declared.ops.ControlFlow.{ControlFlow}
use Rattle.std.specs.declared.ops.ControlFlow.TheVariants.{Continue, Break}
use Rattle.std.proofs.Math.ListN.{length}
use borrow.Author.Tests.{leb-true, leb-false, le-leb, lt-leb, le-ltb, ne_eqb}
use Rattle.xdr.specs.Meaning.Bytes.{number_at, signed}
use Rattle.xdr.specs.Meaning.Refusal.{cut_short}
use Rattle.xdr.specs.Meaning.Answer.{Answer, took, refused}
use Rattle.xdr.specs.Meaning.Codecs.{◌⨾◌}
use Rattle.xdr.specs.Meaning.Items.{number, word, hyper, word_pair, hyper_pair, flag, int, long}
use Rattle.xdr.specs.Meaning.Formats.{eight_held, piece_held, words_held}
use Rattle.xdr.specs.Meaning.Pieces.{piece_answer}
use Rattle.xdr.specs.Laws.Reading.{number_read}
use Rattle.xdr.specs.Meaning.Views.{view}
use Rattle.xdr.specs.declared.refusal.Refusal.{Refusal}
use Rattle.xdr.specs.declared.answer.Took.{Took}
use Rattle.xdr.specs.declared.refusal.Refusal.TheVariants.{Ended}

-- of any answer of the code: what it says where it was taken apart
module _ {A : Type 0} {x : Answer A} {r : Result (Took A) Refusal} where
  -- it took
  pub on : {t : Took A} → view r ≡ x → r ≡ Ok t → x ≡ took t.value t.next t.plain
  on e f = sym e ∙ ap view f

  -- it refused
  pub off : {q : Refusal} → view r ≡ x → r ≡ Err q → x ≡ refused q
  off e f = sym e ∙ ap view f

-- what a `?` returns: the refusal that it was handed
pub exit : {T : Type 0} {r : Result T Refusal} {q : Refusal} → IsErrAnd r (λ e. e ≡ q) → r ≡ Err q
exit {T} {r} {q} h = let p = err_from_is_err_and r h in p.1 ∙ ap Err p.2

pub exits : {T : Type 0} (r : Result (Took T) Refusal) {q : Refusal} {z : Answer T} → IsErrAnd r (λ e. e ≡ q) → refused q ≡ z → view r ≡ z
exits r h e = ap view (exit h) ∙ e

-- what a `?` found in its operand
module _ {T : Type 0} {r : Result T Refusal} {b : ControlFlow _ T} (e : r ≡ result_from_control_flow b) where
  pub was-ok : {x : T} → b ≡ Continue x → r ≡ Ok x
  was-ok f = e ∙ ap result_from_control_flow f

  pub was-err : {q : _} → b ≡ Break q → r ≡ Err q.0
  was-err f = e ∙ ap result_from_control_flow f

pub ruleset tries = (was-ok, was-err)

-- a number of k bytes, by the room for it
module _ (k : ℕ) (s : List ℕ) (p : ℕ) where
  pub number_short : length s - p < k → refused (cut_short k s p) ≡ (number k).kind.read s p
  number_short h = rw (number_read k s p, lt-leb k (length s - p) h)

  pub number-took : {v : ℕ} → k ≤ length s - p → v ≡ number_at k s p → took v (p + k) true ≡ (number k).kind.read s p
  number-took h e = rw (e, number_read k s p, le-leb k (length s - p) h)

  by-room : {v n : ℕ} {b : Bool} (t : Bool) → leb k (length s - p) ≡ t → (number k).kind.read s p ≡ took v n b
      → (k ≤ length s - p) × (v ≡ number_at k s p) × (n ≡ p + k)
  by-room {v} {n} {b} true e f =
      let g : took (number_at k s p) (p + k) true ≡ took v n b = simp e at (sym (number_read k s p) ∙ f) in
      (leb-true k (length s - p) e, cc, cc)
  by-room {v} {n} {b} false e f =
      let g : ◌≡◌ {A = Answer ℕ} (refused (cut_short k s p)) (took v n b) = simp e at (sym (number_read k s p) ∙ f) in
      let z : ◌≡◌ {A = ℕ} 0 1 = cc in absurd (omega arith)

  -- what was taken had room
  pub number-within : {v n : ℕ} {b : Bool} → (number k).kind.read s p ≡ took v n b → (k ≤ length s - p) × (v ≡ number_at k s p) × (n ≡ p + k)
  number-within f = by-room (leb k (length s - p)) refl f

  by-no-room : {r : Refusal} (t : Bool) → leb k (length s - p) ≡ t → (number k).kind.read s p ≡ refused r
      → (length s - p < k) × (◌≡◌ {A = Answer ℕ} (refused r) (refused (cut_short k s p)))
  by-no-room {r} true e f =
      let g : ◌≡◌ {A = Answer ℕ} (took (number_at k s p) (p + k) true) (refused r) = simp e at (sym (number_read k s p) ∙ f) in
      let z : ◌≡◌ {A = ℕ} 0 1 = cc in absurd (omega arith)
  by-no-room {r} false e f =
      let g : ◌≡◌ {A = Answer ℕ} (refused (cut_short k s p)) (refused r) = simp e at (sym (number_read k s p) ∙ f) in
      (leb-false k (length s - p) e, sym g)

  whole-by : {v n : ℕ} {b : Bool} (t : Bool) → leb k (length s - p) ≡ t → (number k).kind.read s p ≡ took v n b → (number k).kind.read s p ≡ took v n true
  whole-by {v} {n} {b} true e f =
      let g : took (number_at k s p) (p + k) true ≡ took v n b = simp e at (sym (number_read k s p) ∙ f) in
      let h : b ≡ true = cc in f ∙ ap (took v n) h
  whole-by {v} {n} {b} false e f =
      let g : ◌≡◌ {A = Answer ℕ} (refused (cut_short k s p)) (took v n b) = simp e at (sym (number_read k s p) ∙ f) in
      let z : ◌≡◌ {A = ℕ} 0 1 = cc in absurd (omega arith)

  -- what was taken is plain
  pub number-whole : {v n : ℕ} {b : Bool} → (number k).kind.read s p ≡ took v n b → (number k).kind.read s p ≡ took v n true
  number-whole f = whole-by (leb k (length s - p)) refl f

  -- what was refused had none
  pub number-without : {r : Refusal} → (number k).kind.read s p ≡ refused r → (length s - p < k) × (◌≡◌ {A = Answer ℕ} (refused r) (refused (cut_short k s p)))
  number-without f = by-no-room (leb k (length s - p)) refl f

-- past the end there is none of it
pub cut-past : (k n p : ℕ) → n < p → Ended p k ≡ Ended p (k - (n - p))
cut-past k n p h = ap (λ (i : ℕ). Ended p i) (omega arith)

-- two numbers of k bytes that stand together: the refusal of the first that is not whole
unfoldable pub pair_end : ℕ → List ℕ → ℕ → Refusal
pair_end k s p = cond (leb k (length s - p)) (cut_short k s (p + k)) (cut_short k s p)

module _ (k : ℕ) (s : List ℕ) (p : ℕ) {r : Refusal} where
  pub first_ends : length s - p < k → r ≡ cut_short k s p → r ≡ pair_end k s p
  unfolding pair_end
  first_ends h e = rw (lt-leb k (length s - p) h, e)

  pub second-ends : k ≤ length s - p → r ≡ cut_short k s (p + k) → r ≡ pair_end k s p
  unfolding pair_end
  second-ends h e = rw (le-leb k (length s - p) h, e)

-- by the room for both and for one
module _ (k : ℕ) (s : List ℕ) (p : ℕ) where
  pub pair-took : {a b n : ℕ} → k + k ≤ length s - p → a ≡ number_at k s p → b ≡ number_at k s (p + k) → n ≡ p + k + k → took (a, b) n true ≡ (number k ⨾ number k).kind.read s p
  pair-took {a} {b} h e f g = rw (g, sym (number-took k s p {v = a} (omega arith) e), sym (number-took k s (p + k) {v = b} (omega arith) f))

  pair_end_lem : (t : Bool) → leb k (length s - p) ≡ t → length s - p < k + k → refused (cond t (cut_short k s (p + k)) (cut_short k s p)) ≡ (number k ⨾ number k).kind.read s p
  pair_end_lem true e h = rw (sym (number-took k s p (leb-true k (length s - p) e) refl), sym (number_short k s (p + k) (omega (arith, leb-true k (length s - p) e))))
  pair_end_lem false e h = rw (sym (number_short k s p (leb-false k (length s - p) e)))

  pub pair-short : length s - p < k + k → refused (pair_end k s p) ≡ (number k ⨾ number k).kind.read s p
  unfolding pair_end
  pair-short h = pair_end_lem (leb k (length s - p)) refl h

-- a number that was taken
module _ (s : List ℕ) (p : ℕ) {r : Result (Took ℕ) Refusal} {t : Took ℕ} where
  pub word-on : view r ≡ word.kind.read s p → r ≡ Ok t → word.kind.read s p ≡ took t.value t.next true
  unfolding word
  word-on e f = number-whole 4 s p (on e f)

  pub hyper-on : view r ≡ hyper.kind.read s p → r ≡ Ok t → hyper.kind.read s p ≡ took t.value t.next true
  unfolding hyper
  hyper-on e f = number-whole 8 s p (on e f)

module _ (s : List ℕ) (p : ℕ) where
  pub word-short : length s - p < 4 → refused (cut_short 4 s p) ≡ word.kind.read s p
  unfolding word
  word-short h = number_short 4 s p h

  pub word-took : {v : ℕ} → 4 ≤ length s - p → v ≡ number_at 4 s p → took v (p + 4) true ≡ word.kind.read s p
  unfolding word
  word-took h e = number-took 4 s p h e

  pub hyper-short : length s - p < 8 → refused (cut_short 8 s p) ≡ hyper.kind.read s p
  unfolding hyper
  hyper-short h = number_short 8 s p h

  pub hyper-took : {v : ℕ} → 8 ≤ length s - p → v ≡ number_at 8 s p → took v (p + 8) true ≡ hyper.kind.read s p
  unfolding hyper
  hyper-took h e = number-took 8 s p h e

  pub word-within : {v n : ℕ} {b : Bool} → word.kind.read s p ≡ took v n b → (4 ≤ length s - p) × (v ≡ number_at 4 s p) × (n ≡ p + 4)
  unfolding word
  word-within f = number-within 4 s p f

  pub word-pair-took : {a b : ℕ} → 8 ≤ length s - p → a ≡ number_at 4 s p → b ≡ number_at 4 s (p + 4) → took (a, b) (p + 8) true ≡ word_pair.kind.read s p
  unfolding word_pair word
  word-pair-took h e f = pair-took 4 s p h e f (omega arith)

  pub word-pair-short : length s - p < 8 → refused (pair_end 4 s p) ≡ word_pair.kind.read s p
  unfolding word_pair word
  word-pair-short h = pair-short 4 s p h

  pub hyper-pair-took : {a b : ℕ} → 16 ≤ length s - p → a ≡ number_at 8 s p → b ≡ number_at 8 s (p + 8) → took (a, b) (p + 16) true ≡ hyper_pair.kind.read s p
  unfolding hyper_pair hyper
  hyper-pair-took h e f = pair-took 8 s p h e f (omega arith)

  pub hyper-pair-short : length s - p < 16 → refused (pair_end 8 s p) ≡ hyper_pair.kind.read s p
  unfolding hyper_pair hyper
  hyper-pair-short h = pair-short 8 s p h

  -- signed numbers, flags and eight bytes, by the number that they are
  pub int-took : {v n : ℕ} {b : Bool} {z : ℤ} → z ≡ signed 2147483648 v → word.kind.read s p ≡ took v n b → took z n b ≡ int.kind.read s p
  unfolding word int
  int-took e f = rw (e, f)

  pub int-refused : (r : Refusal) → word.kind.read s p ≡ refused r → refused r ≡ int.kind.read s p
  unfolding word int
  int-refused r f = rw f

  pub long-took : {v n : ℕ} {b : Bool} {z : ℤ} → z ≡ signed 9223372036854775808 v → hyper.kind.read s p ≡ took v n b
      → took z n b ≡ long.kind.read s p
  unfolding hyper long
  long-took e f = rw (e, f)

  pub long-refused : (r : Refusal) → hyper.kind.read s p ≡ refused r → refused r ≡ long.kind.read s p
  unfolding hyper long
  long-refused r f = rw f

  flag_by : (v n : ℕ) → word.kind.read s p ≡ took v n true → took (not (eqb v 0)) n (ltb v 2) ≡ flag.kind.read s p
  unfolding flag
  flag_by zero n f = rw f
  flag_by (suc zero) n f = rw f
  flag_by (suc (suc v)) n f =
      let g : 2 ≤ suc (suc v) = omega arith in
      simp (f, le-ltb (suc (suc v)) 2 g, ne_eqb (suc (suc v)) 0 (λ e. omega arith))

  pub flag-took : {v n : ℕ} → word.kind.read s p ≡ took v n true → took (not (eqb v 0)) n (ltb v 2) ≡ flag.kind.read s p
  flag-took {v} {n} f = flag_by v n f

  pub flag-refused : (r : Refusal) → word.kind.read s p ≡ refused r → refused r ≡ flag.kind.read s p
  unfolding flag
  flag-refused r f = rw f

  eight-by : (x : Answer ℕ) → hyper.kind.read s p ≡ x → x ≡ eight_held.read s p
  unfolding eight_held
  eight-by (took v n b) f = rw f
  eight-by (refused r) f = rw f

  pub eight_is : {x : Answer ℕ} → x ≡ hyper.kind.read s p → x ≡ eight_held.read s p
  eight_is {x} e = eight-by x (sym e)

  -- an opaque and a word list, by the length word
  pub piece-took : {v n : ℕ} {b : Bool} → word.kind.read s p ≡ took v n b → piece_answer s p v ≡ piece_held.read s p
  unfolding piece_held
  piece-took f = let w = word-within f in rw (w.1, le-leb 4 (length s - p) w.0)

  pub piece-refused : (r : Refusal) → word.kind.read s p ≡ refused r → refused r ≡ piece_held.read s p
  unfolding piece_held word
  piece-refused r f =
      let w = number-without 4 s p f in
      let e : ◌≡◌ {A = Answer ℕ} (refused _) (refused (cut_short 4 s p)) = w.1 in
      rw (lt-leb 4 (length s - p) w.0) (cc e)

  pub words-refused : (r : Refusal) → word.kind.read s p ≡ refused r → refused r ≡ words_held.read s p
  unfolding words_held word
  words-refused r f =
      let w = number-without 4 s p f in
      let e : ◌≡◌ {A = Answer ℕ} (refused _) (refused (cut_short 4 s p)) = w.1 in
      rw (lt-leb 4 (length s - p) w.0) (cc e)

  pub words-short : {v n : ℕ} {b : Bool} → word.kind.read s p ≡ took v n b → length s - n < v * 4 → refused (cut_short (4 + v * 4) s p) ≡ words_held.read s p
  unfolding words_held
  words-short {v} {n} f h =
      let w = word-within f in
      let g : 4 ≤ length s - p = w.0 in
      let k : length s - p < 4 + v * 4 = omega (arith, w.2) in
      rw (← w.1, le-leb 4 (length s - p) g, lt-leb (4 + v * 4) (length s - p) k)

  pub words-took : {v n : ℕ} {b : Bool} → word.kind.read s p ≡ took v n b → v * 4 ≤ length s - n
      → took (record { at = n; count = v; clean = true }) (n + v * 4) true ≡ words_held.read s p
  unfolding words_held
  words-took {v} {n} f h =
      let w = word-within f in
      let g : 4 ≤ length s - p = w.0 in
      let k : 4 + v * 4 ≤ length s - p = omega (arith, w.2) in
      rw (← w.1, le-leb 4 (length s - p) g, le-leb (4 + v * 4) (length s - p) k, w.2)
