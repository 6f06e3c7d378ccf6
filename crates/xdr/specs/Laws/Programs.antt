-- Reading by a procedure's number: what proofs cite, and what an answer tells.
-- Assumes nothing.
use Rattle.std.specs.Prelude.{◌≡◌, refl, Bool, true, false, cond, List, [], ◌∷◌, ℕ, eqb, get_or}
use Rattle.std.proofs.Common.{sym, ap, ◌∙◌, arith, Fits, ne_eqb, eqb-true}
use Rattle.std.proofs.Math.Option.{Option, none, some}
use Rattle.std.specs.Int.{w8}
use Rattle.xdr.specs.Meaning.Bytes.{Bytes}
use Rattle.xdr.specs.Meaning.Answer.{Answer, took, refused, map_answer, opened}
use Rattle.xdr.specs.Meaning.Public.{Answers}
use Rattle.xdr.specs.Meaning.Programs.{Procedure, read_for, read_by, AnswersFor, AnswersBy}
use Rattle.xdr.specs.Laws.Lists.{known_bytes}
use Rattle.xdr.specs.declared.refusal.Refusal.{Refusal}

-- a reader for one procedure, by what the reader of its kind answered
module _ {T R : Type 0} (c : Procedure T) (view : R → Answer c.Has) (s : List ℕ) (p : ℕ) (r t : R) where
  for-refused : (q : Refusal) → Answers c.format s p (view r) → r ≡ t → view t ≡ refused q → some (refused q) ≡ some (read_for s p c)
  for-refused q h e f = ap some (sym (ap (map_answer c.under) (sym h.is ∙ ap view e ∙ f)))

  pub for-lost : (q : Refusal) → Answers c.format s p (view r) → r ≡ t → view t ≡ refused q → AnswersFor c s p (some (refused q))
  for-lost q h e f = record { is = for-refused q h e f; bytes = h.bytes }

  pub for-took : (x : c.Has) (n : ℕ) (b : Bool) → Answers c.format s p (view r) → r ≡ t → view t ≡ took x n b → AnswersFor c s p (some (took (c.under x) n b))
  for-took x n b h e f = record { is = ap some (sym (ap (map_answer c.under) (sym h.is ∙ ap view e ∙ f))); bytes = h.bytes }

module _ {T : Type 0} (l : List (Procedure T)) (v : ℕ) (s : List ℕ) (p : ℕ) where
  -- v is the number k of the procedure c
  pub by-procedure : (k : ℕ) (c : Procedure T) (a : Option (Answer T)) → v ≡ k → AnswersFor c s p a → read_by s p l k ≡ some (read_for s p c) → AnswersBy l v s p a
  by-procedure k c a e h f = record { is = h.is ∙ sym f ∙ ap (read_by s p l) (sym e); bytes = h.bytes }

-- v is the number of none of them, as a match says it of its rest
abbrev pub Others : {T : Type 0} → ℕ → Type 0 → List (Procedure T) → Type 0
Others v H [] = H
Others v H (c ∷ l) = Others v (H × (v ≡ c.number → ⊥)) l

others-first : {T : Type 0} (l : List (Procedure T)) (v : ℕ) (H : Type 0) → Others v H l → H
others-first [] v H o = o
others-first (c ∷ l) v H o = (others-first l v (H × (v ≡ c.number → ⊥)) o).0

read_none : {T : Type 0} (s : List ℕ) (p : ℕ) (l : List (Procedure T)) (v : ℕ) (H : Type 0) → Others v H l → none ≡ read_by s p l v
read_none s p [] v H o = refl
read_none s p (c ∷ l) v H o =
    let U = H × (v ≡ c.number → ⊥) in rw (ne_eqb v c.number (others-first l v U o).1) (read_none s p l v U o)

pub by-none : {T : Type 0} (l : List (Procedure T)) (v : ℕ) (s : List ℕ) (p : ℕ) (H : Type 0) → ((j : ℕ) → Fits w8 (get_or s j 0)) → Others v H l → AnswersBy l v s p none
by-none l v s p H g o = record { is = read_none s p l v H o; bytes = known_bytes s g }

-- what an answer tells: which procedure it is of, and that the reader of its kind gives this answer, so that demands 2 and 3 hold of it
pub record Handed {T : Type 0} (l : List (Procedure T)) (v : ℕ) (s : List ℕ) (p : ℕ) (a : Answer T) : Type 1 where
  pub is : Procedure T
  pub number : v ≡ is.number
  pub answer : Answer is.Has
  pub answers : Answers is.format s p answer
  pub under : a ≡ map_answer is.under answer

module _ {T : Type 0} (s : List ℕ) (p : ℕ) (h : Bytes s) (v : ℕ) (a : Answer T) where
  rest-handed : (c : Procedure T) (l : List (Procedure T)) → Handed l v s p a → Handed (c ∷ l) v s p a
  rest-handed c l g = record { is = g.is; number = g.number; answer = g.answer; answers = g.answers; under = g.under }

  first-handed : (c : Procedure T) (l : List (Procedure T)) → (some a ≡ read_by s p l v → Handed l v s p a) → (b : Bool) → eqb v c.number ≡ b
      → some a ≡ cond b (some (read_for s p c)) (read_by s p l v) → Handed (c ∷ l) v s p a
  first-handed c l g true e f =
      record { is = c; number = eqb-true v c.number e; answer = opened s p (c.format.held.read s p); answers = record { is = refl; bytes = h }; under = cc }
  first-handed c l g false e f = rest-handed c l (g f)

  handed-by : (l : List (Procedure T)) → some a ≡ read_by s p l v → Handed l v s p a
  handed-by [] e = let z : ◌≡◌ {A = ℕ} 0 1 = cc in absurd (omega arith)
  handed-by (c ∷ l) e = first-handed c l (handed-by l) (eqb v c.number) refl e

pub handed : {T : Type 0} (l : List (Procedure T)) (v : ℕ) (s : List ℕ) (p : ℕ) (a : Answer T) → AnswersBy l v s p (some a) → Handed l v s p a
handed l v s p a h = handed-by s p h.bytes v a l h.is
