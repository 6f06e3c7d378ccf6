-- Unions by a tag, where the code matches on the tag: one law for a tag that is declared, and one for the rest, in the shape of a reader's goal.
-- Assumes nothing.
use Rattle.std.specs.Prelude.{◌≡◌, refl, Bool, true, false, ◌&&◌, List, [], ◌∷◌, ℕ, zero, suc, ◌+◌, ◌-◌, ◌≤◌, Result, Err}
use Rattle.std.proofs.Common.{sym, ap, ◌∙◌, arith}
use Rattle.std.specs.Result.{result_from_control_flow}
use Rattle.std.specs.declared.ops.ControlFlow.{ControlFlow}
use Rattle.std.specs.declared.ops.ControlFlow.TheVariants.{Continue}
use Rattle.xdr.specs.Meaning.Answer.{Answer, took, refused}
use Rattle.xdr.specs.Meaning.Combinators.{Seen, means, undeclared, first, second, View, meant, look}
use Rattle.xdr.specs.Meaning.Codecs.{exact_view}
use Rattle.xdr.specs.Meaning.Items.{word}
use Rattle.xdr.specs.Meaning.Held.{seen_as, look_at, then_first, then_second}
use Rattle.xdr.specs.Meaning.Format.{Format, exactly, plain, Branch, branch, tagged, Kept, Back, union}
use Rattle.xdr.specs.Meaning.Kind.{Kind, Codec}
use Rattle.xdr.specs.Meaning.Views.{view}
use Rattle.xdr.specs.Laws.Answers.{was-ok, off, word-on}
use Rattle.xdr.specs.Laws.Plans.{Prog, ask, give, follow, run}
use Rattle.xdr.specs.Laws.Keys.{Rest}
use Rattle.xdr.specs.declared.refusal.Refusal.{Refusal}
use Rattle.xdr.specs.declared.refusal.Refusal.TheVariants.{Undeclared}
use Rattle.xdr.specs.declared.answer.Took.{Took}

-- what is to know of a union, once: its tags are those below `tags`, and any other is read as a default
pub record Union {N T : Type 0} (F : Format N T) (branches : ℕ → Branch) (hold : (tag : ℕ) → (branches tag).Has → Seen T) (tags : ℕ) : Type 0 where
  pub is : (s : List ℕ) (p : ℕ) → F.held.read s p ≡ look_at (λ y. hold y.0 y.1) p ((tagged word branches).held.read s p)

-- the plan of what follows a tag
abbrev pub shown : {T : Type 0} → ℕ → Seen T → Prog T
shown p (means t []) = give t
shown p (means t (w ∷ l)) = ask {S = Unit {0}} (λ s n. took tt n false) (λ u. give t)
shown p undeclared = ask (λ s n. refused (Undeclared p)) give

shown-is : {T : Type 0} (s : List ℕ) (p n : ℕ) (b : Bool) (w : Seen T) → seen_as p n b w ≡ run (shown p w) s n b
shown-is s p n b (means t []) = refl
shown-is s p n true (means t (w ∷ l)) = refl
shown-is s p n false (means t (w ∷ l)) = refl
shown-is s p n b undeclared = refl

module _ {T : Type 0} (branches : ℕ → Branch) (hold : (tag : ℕ) → (branches tag).Has → Seen T) where
  abbrev pub behind : ℕ → ℕ → Prog T
  behind p v = ask (branches v).format.held.read (λ y. shown p (hold v y))

  module _ (s : List ℕ) (p : ℕ) where
    second_is : (v : ℕ) (b : Bool) (a : Answer (branches v).Has)
        → look_at (λ y. hold y.0 y.1) p (then_second (λ t. (branches t).format.codec) (plain word) (λ s t. (branches t).format.held) v b a)
        ≡ follow (λ y n d. run (shown p (hold v y)) s n d) b a
    second_is v b (took y n c) = shown-is s p n (b && c) (hold v y)
    second_is v b (refused q) = refl

    first-is : (a : Answer ℕ)
        → look_at (λ y. hold y.0 y.1) p (then_first (λ t. (branches t).format.codec) (plain word) (λ s t. (branches t).format.held) s a)
        ≡ follow (λ v n d. run (behind p v) s n d) true a
    first-is (took v n b) = second_is v b ((branches v).format.held.read s n)
    first-is (refused q) = refl

    union-read : {N : Type 0} {F : Format N T} {tags : ℕ} → Union F branches hold tags → F.held.read s p ≡ follow (λ v n d. run (behind p v) s n d) true (word.kind.read s p)
    union-read X = X.is s p ∙ first-is (word.kind.read s p)

-- v is one of those that are left
abbrev pub from : ℕ → ℕ → List ℕ
from i zero = []
from i (suc n) = i ∷ from (suc i) n

abbrev pub past : ℕ → ℕ → ℕ
past zero x = x
past (suc m) x = suc (past m x)

past_is : (m x : ℕ) → past m x ≡ m + x
past_is zero x = omega arith
past_is (suc m) x = omega (arith, past_is m x)

rest_from : (T : Type 0) (i n v : ℕ) → (T → i ≤ v) → Rest T (from i n) v → i + n ≤ v
rest_from T i zero v g h = omega (arith, g h)
rest_from T i (suc n) v g h =
    omega (arith, rest_from (T × (v ≡ i → ⊥)) (suc i) n v (λ t. omega (arith, g t.0, t.1)) h)

rest-past : (m v : ℕ) → Rest (Unit {0}) (from 0 m) v → v ≡ past m (v - m)
rest-past m v h = omega (arith, rest_from (Unit {0}) 0 m v (λ t. omega arith) h, past_is m (v - m))

-- by the answer of the call that reads the tag
module _ {N T : Type 0} {F : Format N T} (branches : ℕ → Branch) (hold : (tag : ℕ) → (branches tag).Has → Seen T) (tags : ℕ) (X : Union F branches hold tags) (s : List ℕ) (p : ℕ) (r : Result (Took ℕ) Refusal) where
  pub union-lost : (q : Refusal) → view r ≡ word.kind.read s p → r ≡ Err q → refused q ≡ F.held.read s p
  union-lost q e f = rw (union-read branches hold s p X, off e f)

  module _ (x : Took ℕ) (c : ControlFlow _ (Took ℕ)) (z : Answer T) where
    union-took : view r ≡ word.kind.read s p → r ≡ result_from_control_flow c → c ≡ Continue x → (k : ℕ) → x.value ≡ k → z ≡ run (behind branches hold p k) s x.next true → z ≡ F.held.read s p
    union-took e t f k g h = h ∙ ap (λ t. run (behind branches hold p t) s x.next true) (sym g) ∙ sym (rw (union-read branches hold s p X, word-on s p e (was-ok t f)))

    pub union-key : (k : ℕ) → view r ≡ word.kind.read s p → r ≡ result_from_control_flow c → c ≡ Continue x → x.value ≡ k → z ≡ run (behind branches hold p k) s x.next true → z ≡ F.held.read s p
    union-key k e t f g h = union-took e t f k g h

    pub union-rest : view r ≡ word.kind.read s p → r ≡ result_from_control_flow c → c ≡ Continue x → Rest (Unit {0}) (from 0 (tags)) x.value
        → z ≡ run (behind branches hold p (past (tags) (x.value - tags))) s x.next true → z ≡ F.held.read s p
    union-rest e t f g h = union-took e t f (past (tags) (x.value - tags)) (rest-past (tags) x.value g) h

-- the same of a codec
module _ {N : Type 0} {C : Codec N} (branches : ℕ → Branch) (hold : (tag : ℕ) → (branches tag).Has → Seen N) (tags : ℕ) (X : Union (exactly C) branches hold tags) (s : List ℕ) (p : ℕ) (r : Result (Took ℕ) Refusal) where
  pub arm-lost : (q : Refusal) → view r ≡ word.kind.read s p → r ≡ Err q → refused q ≡ C.kind.read s p
  arm-lost = union-lost branches hold tags X s p r

  module _ (x : Took ℕ) (c : ControlFlow _ (Took ℕ)) (z : Answer N) where
    pub arm-key : (k : ℕ) → view r ≡ word.kind.read s p → r ≡ result_from_control_flow c → c ≡ Continue x → x.value ≡ k → z ≡ run (behind branches hold p k) s x.next true → z ≡ C.kind.read s p
    arm-key = union-key branches hold tags X s p r x c z

    pub arm-rest : view r ≡ word.kind.read s p → r ≡ result_from_control_flow c → c ≡ Continue x → Rest (Unit {0}) (from 0 (tags)) x.value
        → z ≡ run (behind branches hold p (past (tags) (x.value - tags))) s x.next true → z ≡ C.kind.read s p
    arm-rest = union-rest branches hold tags X s p r x c z

pub ruleset unions = (union-lost, union-key, union-rest, arm-lost, arm-key, arm-rest)

-- a codec's union is one of formats without pieces
module _ {M N : Type 0} (K : Kind M) (W : View M K.Good N) (p : ℕ) where
  meant_is : (n : ℕ) (b : Bool) (w : Seen N) → meant K W p n b w ≡ seen_as p n b w
  meant_is n b (means m w) = refl
  meant_is n b undeclared = refl

  look_is : (a : Answer M) → look K W p a ≡ look_at W.see p a
  look_is (took x n b) = meant_is n b (W.see x)
  look_is (refused q) = refl

module _ (arms : ℕ → Branch) where
  abbrev pub arm_branches : ℕ → Branch
  arm_branches t = branch (exactly (arms t).format.codec)

  arm-second : (v : ℕ) (b : Bool) (a : Answer (arms v).Msg) → second word.kind (λ t. (arms t).format.codec.kind) v b a
      ≡ then_second (λ t. (arms t).format.codec) (plain word) (λ s t. plain (arms t).format.codec) v b a
  arm-second v b (took y n c) = refl
  arm-second v b (refused q) = refl

  arm-first : (s : List ℕ) (a : Answer ℕ) → first word.kind (λ t. (arms t).format.codec.kind) s a
      ≡ then_first (λ t. (arms t).format.codec) (plain word) (λ s t. plain (arms t).format.codec) s a
  arm-first s (took v n b) = arm-second v b ((arms v).format.codec.kind.read s n)
  arm-first s (refused q) = refl

  module _ {N : Type 0} (see : (tag : ℕ) → (arms tag).Msg → Seen N) (to : N → (tag : ℕ) × (arms tag).Msg) (kept : Kept word arms see to) (back : Back word arms see to) where
    pub arms-read : (s : List ℕ) (p : ℕ)
        → (union word arms see to kept back).kind.read s p ≡ look_at (λ y. see y.0 y.1) p ((tagged word arm_branches).held.read s p)
    arms-read s p =
        look_is (tagged word arms).codec.kind (exact_view (tagged word arms).codec (λ y. see y.0 y.1) to (λ y. kept y.0 y.1) back) p
        ((tagged word arms).codec.kind.read s p)
        ∙ ap (look_at (λ y. see y.0 y.1) p) (arm-first s (word.kind.read s p))
