-- A reading as a plan: which kinds are asked one after another, and what is given in the end.
-- An inner reader's proof follows the plan by `search`: `step` takes one call's answer, `given` ends, `lost-at` ends a refusal.
-- Assumes nothing.
use Rattle.std.specs.Prelude.{◌≡◌, refl, Bool, true, false, ◌&&◌, cond, not, List, [], ℕ}
use Rattle.std.proofs.Common.{sym, ap, ◌∙◌, arith, rules}
use Rattle.std.proofs.Math.Bool.{and-true}
use Rattle.std.proofs.Math.Option.{Option, none, some}
use Rattle.xdr.specs.Laws.Public.{answers-off, answers-on}
use Rattle.xdr.specs.Meaning.Answer.{Answer, took, refused}
use Rattle.xdr.specs.Meaning.Kind.{Codec}
use Rattle.xdr.specs.Meaning.Combinators.{means, first, second, look}
use Rattle.xdr.specs.Meaning.Codecs.{◌⨾◌, mapped, exact_view}
use Rattle.xdr.specs.Meaning.Held.{look_at, then_first, then_second}
use Rattle.xdr.specs.Meaning.Format.{Format, exactly, plain, ◌⨟◌, if_format, optional}
use Rattle.xdr.specs.Meaning.Shapes.{to_option}
use Rattle.xdr.specs.Meaning.Items.{flag}
use Rattle.xdr.specs.declared.refusal.Refusal.{Refusal}

pub data Prog (U : Type 0) : Type 1 where
  ask : {S : Type 0} → (List ℕ → ℕ → Answer S) → (S → Prog U) → Prog U
  test : Bool → Prog U → Prog U → Prog U
  give : U → Prog U

abbrev pub follow : {S U : Type 0} → (S → ℕ → Bool → Answer U) → Bool → Answer S → Answer U
follow k b (took x n b') = k x n (b && b')
follow k b (refused r) = refused r

abbrev pub run : {U : Type 0} → Prog U → List ℕ → ℕ → Bool → Answer U
run (give u) s p b = took u p b
run (test v P Q) s p b = cond v (run P s p b) (run Q s p b)
run (ask f k) s p b = follow (λ x n d. run (k x) s n d) b (f s p)

-- F reads as `by` plans, whatever comes after it
pub record Plan {M S : Type 0} (F : Format M S) : Type 1 where
  pub by : {U : Type 0} → (S → Prog U) → Prog U
  pub is : {U : Type 0} (k : S → Prog U) (s : List ℕ) (p : ℕ) (b : Bool)
      → follow (λ x n d. run (k x) s n d) b (F.held.read s p) ≡ run (by k) s p b

-- one call
abbrev pub at : {M S : Type 0} (F : Format M S) → Plan F
at F = record { by = ask F.held.read; is = λ k s p b. refl }

and_assoc : (a b c : Bool) → a && (b && c) ≡ (a && b) && c
and_assoc true b c = refl
and_assoc false b c = refl

-- one after another
module _ {M N S T : Type 0} {F : Format M S} {G : Format N T} (P : Plan F) (Q : Plan G) where
  second_is : {U : Type 0} (k : S × T → ℕ → Bool → Answer U) (x : S) (b b₁ : Bool) (a : Answer T)
      → follow k b (then_second (λ m. G.codec) F.held (λ s y. G.held) x b₁ a) ≡ follow (λ y n d. k (x, y) n d) (b && b₁) a
  second_is k x b b₁ (took y n b₂) = ap (k (x, y) n) (and_assoc b b₁ b₂)
  second_is k x b b₁ (refused n) = refl

  module _ {U : Type 0} (k : S × T → Prog U) (s : List ℕ) where
    first-is : (b : Bool) (a : Answer S)
        → follow (λ x n d. run (k x) s n d) b (then_first (λ m. G.codec) F.held (λ s y. G.held) s a)
        ≡ follow (λ x n d. run (Q.by (λ y. k (x, y))) s n d) b a
    first-is b (took x n b₁) = second_is (λ x n d. run (k x) s n d) x b b₁ (G.held.read s n) ∙ Q.is (λ y. k (x, y)) s n (b && b₁)
    first-is b (refused n) = refl

    pub pair_is : (p : ℕ) (b : Bool)
        → follow (λ x n d. run (k x) s n d) b ((F ⨟ G).held.read s p) ≡ run (P.by (λ x. Q.by (λ y. k (x, y)))) s p b
    pair_is p b = first-is b (F.held.read s p) ∙ P.is (λ x. Q.by (λ y. k (x, y))) s p b

infixr 20 ◌then◌
abbrev pub ◌then◌ : {M N S T : Type 0} {F : Format M S} {G : Format N T} → Plan F → Plan G → Plan (F ⨟ G)
P then Q = record { by = λ k. P.by (λ x. Q.by (λ y. k (x, y))); is = λ k s p b. pair_is P Q k s p b }

-- a value that a flag says is there
module _ {M S : Type 0} {F : Format M S} (P : Plan F) {U : Type 0} (k : Option S → Prog U) (s : List ℕ) where
  abbrev maybe-by : Prog U
  maybe-by = ask flag.kind.read (λ v. test v (P.by (λ x. k (some x))) (k none))

  there-is : (p n : ℕ) (b b₁ : Bool) (a : Answer S)
      → follow (λ x n d. run (k x) s n d) b
      (look_at (λ y. means (to_option S y.0 y.1) []) p (then_second (λ v. (if_format F v).codec) (plain flag) (λ t v. (if_format F v).held) true b₁ a))
      ≡ follow (λ x n d. run (k (some x)) s n d) (b && b₁) a
  there-is p n b b₁ (took y m b₂) = ap (run (k (some y)) s m) (and_assoc b b₁ b₂)
  there-is p n b b₁ (refused q) = refl

  flag_is : (p : ℕ) (b : Bool) (a : Answer Bool)
      → follow (λ x n d. run (k x) s n d) b
      (look_at (λ y. means (to_option S y.0 y.1) []) p (then_first (λ v. (if_format F v).codec) (plain flag) (λ t v. (if_format F v).held) s a))
      ≡ follow (λ v n d. run (test v (P.by (λ x. k (some x))) (k none)) s n d) b a
  flag_is p b (took true n b₁) = there-is p n b b₁ (F.held.read s n) ∙ P.is (λ x. k (some x)) s n (b && b₁)
  flag_is p b (took false n b₁) = ap (λ d. run (k none) s n (b && d)) (and-true b₁)
  flag_is p b (refused q) = refl

  pub maybe-is : (p : ℕ) (b : Bool) → follow (λ x n d. run (k x) s n d) b ((optional F).held.read s p)
      ≡ run (ask flag.kind.read (λ v. test v (P.by (λ x. k (some x))) (k none))) s p b
  maybe-is p b = flag_is p b (flag.kind.read s p)

abbrev pub optionally : {M S : Type 0} {F : Format M S} → Plan F → Plan (optional F)
optionally P =
    record {
      by = λ k. ask flag.kind.read (λ v. test v (P.by (λ x. k (some x))) (k none));
      is = λ k s p b. maybe-is P k s p b;
    }

-- the same of codecs
module _ {M N : Type 0} {C : Codec M} {D : Codec N} (P : Plan (exactly C)) (Q : Plan (exactly D)) where
  second-is-c : {U : Type 0} (k : M × N → ℕ → Bool → Answer U) (x : M) (b b₁ : Bool) (a : Answer N)
      → follow k b (second C.kind (λ m. D.kind) x b₁ a) ≡ follow (λ y n d. k (x, y) n d) (b && b₁) a
  second-is-c k x b b₁ (took y n b₂) = ap (k (x, y) n) (and_assoc b b₁ b₂)
  second-is-c k x b b₁ (refused n) = refl

  module _ {U : Type 0} (k : M × N → Prog U) (s : List ℕ) where
    first-is-c : (b : Bool) (a : Answer M)
        → follow (λ x n d. run (k x) s n d) b (first C.kind (λ m. D.kind) s a)
        ≡ follow (λ x n d. run (Q.by (λ y. k (x, y))) s n d) b a
    first-is-c b (took x n b₁) = second-is-c (λ x n d. run (k x) s n d) x b b₁ (D.kind.read s n) ∙ Q.is (λ y. k (x, y)) s n (b && b₁)
    first-is-c b (refused n) = refl

    pub pair-is-c : (p : ℕ) (b : Bool)
        → follow (λ x n d. run (k x) s n d) b ((C ⨾ D).kind.read s p) ≡ run (P.by (λ x. Q.by (λ y. k (x, y)))) s p b
    pair-is-c p b = first-is-c b (C.kind.read s p) ∙ P.is (λ x. Q.by (λ y. k (x, y))) s p b

infixr 20 ◌next◌
abbrev pub ◌next◌ : {M N : Type 0} {C : Codec M} {D : Codec N} → Plan (exactly C) → Plan (exactly D) → Plan (exactly (C ⨾ D))
P next Q = record { by = λ k. P.by (λ x. Q.by (λ y. k (x, y))); is = λ k s p b. pair-is-c P Q k s p b }

-- a kind that is read by a plan: what was asked is held under the code's own names
pub record Planned {T : Type 0} (f : List ℕ → ℕ → Answer T) : Type 1 where
  pub by : Prog T
  pub is : (s : List ℕ) (p : ℕ) → f s p ≡ run by s p true

module _ {M S T : Type 0} {F : Format M S} (P : Plan F) (hold : S → T) where
  hold-is : (p : ℕ) (a : Answer S) → look_at (λ y. means (hold y) []) p a ≡ follow (λ y n d. took (hold y) n d) true a
  hold-is p (took x n b) = refl
  hold-is p (refused n) = refl

  pub plan-is : (s : List ℕ) (p : ℕ) → look_at (λ y. means (hold y) []) p (F.held.read s p) ≡ run (P.by (λ y. give (hold y))) s p true
  plan-is s p = hold-is p (F.held.read s p) ∙ P.is (λ y. give (hold y)) s p true

  abbrev pub plan : Planned (λ s p. look_at (λ y. means (hold y) []) p (F.held.read s p))
  plan = record { by = P.by (λ y. give (hold y)); is = plan-is }

module _ {M N : Type 0} {C : Codec M} (P : Plan (exactly C)) (f : M → N) (g : N → M) (gf : (x : M) → g (f x) ≡ x) (fg : (y : N) → f (g y) ≡ y) where
  mapped-is : (p : ℕ) (a : Answer M) → look C.kind (exact_view C (λ x. means (f x) []) g gf (λ y. ap (λ z. means z []) (fg y))) p a ≡ follow (λ y n d. took (f y) n d) true a
  mapped-is p (took x n b) = refl
  mapped-is p (refused n) = refl

  pub plan-is-c : (s : List ℕ) (p : ℕ) → (mapped C f g gf fg).kind.read s p ≡ run (P.by (λ y. give (f y))) s p true
  plan-is-c s p = mapped-is p (C.kind.read s p) ∙ P.is (λ y. give (f y)) s p true

  abbrev pub planned-as : Planned (mapped C f g gf fg).kind.read
  planned-as = record { by = P.by (λ y. give (f y)); is = plan-is-c }

-- the steps of a proof
pub planned : {T : Type 0} {f : List ℕ → ℕ → Answer T} (P : Planned f) (s : List ℕ) (p : ℕ) (z : Answer T) → z ≡ run P.by s p true → z ≡ f s p
planned P s p z e = e ∙ sym (P.is s p)

-- what was asked for was handed over, or it was refused
module _ {S U : Type 0} (f : List ℕ → ℕ → Answer S) (k : S → Prog U) (s : List ℕ) (p : ℕ) (b : Bool) where
  pub step : (z : Answer U) (x : S) (n : ℕ) (d : Bool) → took x n d ≡ f s p → z ≡ run (k x) s n (b && d) → z ≡ run (ask f k) s p b
  step z x n d e h = rw (sym e) h

  pub lost : (q : Refusal) → refused q ≡ f s p → refused q ≡ run (ask f k) s p b
  lost q e = rw (sym e)

pub given : {U : Type 0} (u : U) (s : List ℕ) (p : ℕ) (b : Bool) → took u p b ≡ run (give u) s p b
given u s p b = refl

module _ {U : Type 0} (v : Bool) (P Q : Prog U) (s : List ℕ) (p : ℕ) (b : Bool) (z : Answer U) where
  pub tested-none : v ≡ false → z ≡ run Q s p b → z ≡ run (test v P Q) s p b
  tested-none e h = by v e
    where
      by : (v : Bool) → v ≡ false → z ≡ run (test v P Q) s p b
      by false e = h
      by true e = let y : ◌≡◌ {A = ℕ} 0 1 = cc in absurd (omega arith)

  pub tested-some : v ≡ true → z ≡ run P s p b → z ≡ run (test v P Q) s p b
  tested-some e h = by v e
    where
      by : (v : Bool) → v ≡ true → z ≡ run (test v P Q) s p b
      by true e = h
      by false e = let y : ◌≡◌ {A = ℕ} 0 1 = cc in absurd (omega arith)

-- the same where the code tests what it found before it is named
module _ {U : Type 0} (v : Bool) (P Q : Prog U) (s : List ℕ) (p : ℕ) (b : Bool) (z : Answer U) where
  pub tested-not : not v ≡ true → z ≡ run Q s p b → z ≡ run (test v P Q) s p b
  tested-not e h = tested-none v P Q s p b z (no v e) h
    where
      no : (v : Bool) → not v ≡ true → v ≡ false
      no false e = refl
      no true e = let y : ◌≡◌ {A = ℕ} 0 1 = cc in absurd (omega arith)

  pub tested-is : not v ≡ false → z ≡ run P s p b → z ≡ run (test v P Q) s p b
  tested-is e h = tested-some v P Q s p b z (yes v e) h
    where
      yes : (v : Bool) → not v ≡ false → v ≡ true
      yes true e = refl
      yes false e = let y : ◌≡◌ {A = ℕ} 0 1 = cc in absurd (omega arith)

pub ruleset asks = (given, tested-none, tested-some, tested-not, tested-is, step, lost)

-- what a public reader's proof cites
pub ruleset reads = (rules, answers-off, answers-on)
