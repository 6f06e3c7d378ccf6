-- Closed enumerations whose code matches on the number itself: each law is in the shape of a reader's goal.
-- Assumes nothing.
use Rattle.std.specs.Prelude.{◌≡◌, refl, true, List, [], ◌∷◌, map, ℕ, length, Result, Err}
use Rattle.std.proofs.Common.{ap, subst, ◌∙◌, ne_eqb}
use Rattle.std.specs.Result.{result_from_control_flow}
use Rattle.std.specs.declared.ops.ControlFlow.{ControlFlow}
use Rattle.std.specs.declared.ops.ControlFlow.TheVariants.{Continue}
use Rattle.xdr.specs.Meaning.Answer.{took, refused, Written}
use Rattle.xdr.specs.Meaning.Combinators.{means, undeclared, among}
use Rattle.xdr.specs.Meaning.Items.{word, closed}
use Rattle.xdr.specs.Meaning.Kind.{Codec}
use Rattle.xdr.specs.Meaning.Format.{exactly}
use Rattle.xdr.specs.Meaning.Public.{Writes}
use Rattle.xdr.specs.Meaning.Views.{view}
use Rattle.xdr.specs.Laws.Answers.{was-ok, off, word-on}
use Rattle.xdr.specs.Laws.Padding.{word-length}
use Rattle.xdr.specs.Laws.Closed.{closed-refused, closed-undeclared, closed-took, by_number}
use Rattle.xdr.specs.declared.refusal.Refusal.{Refusal}
use Rattle.xdr.specs.declared.refusal.Refusal.TheVariants.{Undeclared}
use Rattle.xdr.specs.declared.answer.Took.{Took}

-- v is none of the keys: what the last arm of a match on v is handed, as it is handed
abbrev pub Rest : Type 0 → List ℕ → ℕ → Type 0
Rest T [] v = T
Rest T (k ∷ l) v = Rest (T × (v ≡ k → ⊥)) l v

rest_of : (T : Type 0) (l : List ℕ) (v : ℕ) → Rest T l v → T
rest_of T [] v h = h
rest_of T (k ∷ l) v h = (rest_of (T × (v ≡ k → ⊥)) l v h).0

module _ {A : Type 0} (number : A → ℕ) (v : ℕ) where
  among-rest : (T : Type 0) (l : List A) → Rest T (map number l) v → among number l v ≡ undeclared
  among-rest T [] h = refl
  among-rest T (a ∷ l) h =
      let U = T × (v ≡ number a → ⊥) in
      rw (ne_eqb v (number a) (rest_of U (map number l) v h).1) (among-rest U l h)

-- what is to know of an enumeration, once
pub record Numbered {A : Type 0} (C : Codec A) (number : A → ℕ) (values : List A) : Type 1 where
  pub each : (a : A) → among number values (number a) ≡ means a []
  pub is : closed number values each ≡ C

module _ {A : Type 0} {C : Codec A} (number : A → ℕ) (values : List A) (E : Numbered C number values) where
  module _ (s : List ℕ) (p : ℕ) (r : Result (Took ℕ) Refusal) where
    same : (closed number values E.each).kind.read s p ≡ C.kind.read s p
    same = ap (λ D. D.kind.read s p) E.is

    pub key-lost : (q : Refusal) → view r ≡ word.kind.read s p → r ≡ Err q → refused q ≡ C.kind.read s p
    key-lost q e f = closed-refused number values E.each s p (off e f) ∙ same

    module _ (x : Took ℕ) (c : ControlFlow _ (Took ℕ)) where
      pub key-rest : view r ≡ word.kind.read s p → r ≡ result_from_control_flow c → c ≡ Continue x → Rest (Unit {0}) (map number values) x.value → refused (Undeclared p) ≡ C.kind.read s p
      key-rest e t f h = closed-undeclared number values E.each s p (word-on s p e (was-ok t f)) (among-rest number x.value (Unit {0}) values h) ∙ same

      pub key-is : (k : ℕ) (a : A) → view r ≡ word.kind.read s p → r ≡ result_from_control_flow c → c ≡ Continue x → x.value ≡ k → among number values k ≡ means a []
          → took a x.next true ≡ C.kind.read s p
      key-is k a e t f g h = closed-took number values E.each s p (word-on s p e (was-ok t f)) (ap (among number values) g ∙ h) ∙ same

  -- it is written as the word of its number, in 4 bytes
  pub key-writes : (a : A) (v at : ℕ) (o : List ℕ) (w : Written) (o' : List ℕ) → v ≡ number a → Writes (exactly word) [] v at o w o'
      → Writes (exactly C) [] a at o w o'
  key-writes a v at o w o' e f = subst (λ D. Writes (exactly D) [] a at o w o') E.is (by_number number values E.each a at o e f)

  pub key-length : (a : A) → length (C.kind.write a) ≡ 4
  key-length a = subst (λ D. length (D.kind.write a) ≡ 4) E.is (word-length (number a))

pub ruleset keys = (key-lost, key-rest, key-is)
