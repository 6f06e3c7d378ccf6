-- A union on a status, as proofs cite it: how it is read, its bytes by its arms, and how many there are. Each law is proved once, over the arms.
-- Assumes nothing.
use Rattle.std.specs.Prelude.{◌≡◌, refl, Bool, true, false, ◌&&◌, List, [], ◌++◌, ℕ, ◌+◌, ◌≤◌, length, drop, Ok, Err}
use Rattle.std.specs.Prelude as std
use Rattle.std.proofs.Common.{sym, ap, ap₂, ◌∙◌, append-nil, arith, length-append}
use Rattle.std.proofs.Math.Option.{Option, none, some}
use Rattle.std.specs.Result.{result_from_control_flow}
use Rattle.std.specs.declared.ops.ControlFlow.{ControlFlow}
use Rattle.std.specs.declared.ops.ControlFlow.TheVariants.{Continue}
use Rattle.xdr.specs.Meaning.Answer.{Answer, took, refused}
use Rattle.xdr.specs.Meaning.Kind.{Codec}
use Rattle.xdr.specs.Meaning.Codecs.{void}
use Rattle.xdr.specs.Meaning.Format.{Format, exactly, plain, ◌⨟◌, tagged}
use Rattle.xdr.specs.Meaning.Combinators.{means}
use Rattle.xdr.specs.Meaning.Held.{look_at, then_second}
use Rattle.xdr.specs.Meaning.Public.{output, laid}
use Rattle.xdr.specs.Meaning.Marks.{MarksAre}
use Rattle.xdr.specs.Meaning.Status.{Status, Result, ok, failed, Arms, arm_of, to_held, status_of, on_status}
use Rattle.xdr.specs.Laws.Answers.{was-ok, on, off}
use Rattle.xdr.specs.Laws.Fixed.{Fixed}
use Rattle.xdr.specs.Laws.Unpadded.{no-marks}
use Rattle.xdr.specs.Laws.Lengths.{Within, chain-within, view-within, mapped-within, no_default}
use Rattle.xdr.specs.Laws.Plans.{Prog, ask, give, follow, run}
use Rattle.xdr.specs.Laws.Write.{Ready, put-laid}
use Rattle.xdr.specs.Laws.Writers.{Writer}
use Rattle.xdr.specs.Laws.Fields.{Lays}
use Rattle.xdr.specs.Meaning.Views.{view}
use Rattle.xdr.specs.declared.refusal.Refusal.{Refusal}
use Rattle.xdr.specs.declared.answer.Took.{Took}

-- a kind that is such a union: all that is to know of it
pub record OnStatus {A Fail M N S T R : Type 0} (C : Codec A) (U : Status A Fail) (F : Format M S) (G : Format N T) (W : Arms Fail S T R) (D : Format (Result Fail M N) R) : Type 1 where
  pub is : D ≡ on_status C U F G W

-- no failure has the status of success
pub failed-other : {A Fail : Type 0} (U : Status A Fail) (f : Fail) → U.to (some f) ≡ U.to none → ⊥
failed-other U f e =
    let g : some f ≡ none = sym (U.of_to (some f)) ∙ ap U.of e ∙ U.of_to none in
    let z : ◌≡◌ {A = ℕ} 0 1 = cc in absurd (omega arith)

-- what follows the status, as a plan
module _ {A Fail M N S T R : Type 0} (C : Codec A) (U : Status A Fail) (F : Format M S) (G : Format N T) (W : Arms Fail S T R) where
  abbrev pub arm_by : Option Fail → Prog R
  arm_by none = ask F.held.read (λ x. give (W.to (ok x)))
  arm_by (some f) = ask G.held.read (λ y. give (W.to (failed f y)))

  module _ (s : List ℕ) (p : ℕ) where
    ok-is : (n : ℕ) (b : Bool) (a : Answer S)
        → look_at (λ y. means (W.to (to_held F G y.0 y.1)) []) p
        (then_second (λ o. (arm_of {Fail = Fail} F G o).format.codec) (plain (status_of C U F G W)) (λ s o. (arm_of F G o).format.held) none b a)
        ≡ follow (λ x n d. took (W.to (ok x)) n d) b a
    ok-is n b (took x m d) = refl
    ok-is n b (refused r) = refl

    failed-is : (f : Fail) (n : ℕ) (b : Bool) (a : Answer T)
        → look_at (λ y. means (W.to (to_held F G y.0 y.1)) []) p
        (then_second (λ o. (arm_of {Fail = Fail} F G o).format.codec) (plain (status_of C U F G W)) (λ s o. (arm_of F G o).format.held) (some f) b a)
        ≡ follow (λ y n d. took (W.to (failed f y)) n d) b a
    failed-is f n b (took x m d) = refl
    failed-is f n b (refused r) = refl

    arm_is : (n : ℕ) (b : Bool) (o : Option Fail)
        → look_at (λ y. means (W.to (to_held F G y.0 y.1)) []) p
        (then_second (λ o. (arm_of {Fail = Fail} F G o).format.codec) (plain (status_of C U F G W)) (λ s o. (arm_of F G o).format.held) o b ((arm_of F G o).format.held.read s n))
        ≡ run (arm_by o) s n b
    arm_is n b none = ok-is n b (F.held.read s n)
    arm_is n b (some f) = failed-is f n b (G.held.read s n)

    status-is : (a : Answer A) → C.kind.read s p ≡ a → (on_status C U F G W).held.read s p ≡ follow (λ a n d. run (arm_by (U.of a)) s n d) true a
    status-is (took a n b) e = rw e (arm_is n b (U.of a))
    status-is (refused r) e = rw e

-- by the answer of the call that reads the status: what it refuses, and what it says
module _ {A Fail M N S T R : Type 0} {C : Codec A} {U : Status A Fail} {F : Format M S} {G : Format N T} {W : Arms Fail S T R}
    {D : Format (Result Fail M N) R} (X : OnStatus C U F G W D) (s : List ℕ) (p : ℕ) (r : std.Result (Took A) Refusal) where
  status-read : (a : Answer A) → C.kind.read s p ≡ a → D.held.read s p ≡ follow (λ a n d. run (arm_by C U F G W (U.of a)) s n d) true a
  status-read a e = ap (λ d. d.held.read s p) X.is ∙ status-is C U F G W s p a e

  pub status-lost : (q : Refusal) → view r ≡ C.kind.read s p → r ≡ Err q → refused q ≡ D.held.read s p
  status-lost q e f = sym (status-read (refused q) (off e f))

  pub status-took : (t : Took A) (c : A) (i : ControlFlow _ (Took A)) (z : Answer R) → view r ≡ C.kind.read s p → r ≡ result_from_control_flow i → i ≡ Continue t → t.value ≡ c
      → z ≡ run (arm_by C U F G W (U.of c)) s t.next t.plain → z ≡ D.held.read s p
  status-took t c i z e g f h k =
      k ∙ ap (λ v. run (arm_by C U F G W (U.of v)) s t.next t.plain) (sym h) ∙ sym (status-read (took t.value t.next t.plain) (on e (was-ok g f)))

-- by its arms: what lies inside, and what a writer lays
module _ {A Fail M N S T R : Type 0} {C : Codec A} {U : Status A Fail} {F : Format M S} {G : Format N T} {W : Arms Fail S T R} {D : Format (Result Fail M N) R}
    (X : OnStatus C U F G W D) (s : List ℕ) (x : R) where
  arm-of : (y : Result Fail S T) → x ≡ W.to y → W.from x ≡ y
  arm-of y e = ap W.from e ∙ W.from_to y

  pub ok-inside : (y : S) (b : Bool) → x ≡ W.to (ok y) → b ≡ F.held.inside s y → b ≡ D.held.inside s x
  ok-inside y b e f = f ∙ sym (rw (X.is, arm-of (ok y) e))

  pub failed-inside : (f : Fail) (y : T) (b : Bool) → x ≡ W.to (failed f y) → b ≡ G.held.inside s y → b ≡ D.held.inside s x
  failed-inside f y b e g = g ∙ sym (rw (X.is, arm-of (failed f y) e))

  ok-output : (y : S) → x ≡ W.to (ok y) → output (exactly C ⨟ F) s (U.to none, y) ≡ output D s x
  ok-output y e = sym (rw (X.is, arm-of (ok y) e))

  failed-output : (f : Fail) (y : T) → x ≡ W.to (failed f y) → output (exactly C ⨟ G) s (U.to (some f), y) ≡ output D s x
  failed-output f y e = sym (rw (X.is, arm-of (failed f y) e))

  module _ (o z : List ℕ) where
    pub ok-lays : (y : S) → x ≡ W.to (ok y) → Lays (exactly C ⨟ F) s (U.to none, y) o z → Lays D s x o z
    ok-lays y e a =
        let f = ok-output y e in
        let i = ok-inside y _ e refl in
        record {
          put =
              λ r h. let g = a.put (record { short = r.short; inside = i ∙ r.inside }) (omega (arith, ap length f)) in
              record { is = g.is ∙ ap (λ b. b ++ drop (length b) o) f; long = refl };
        }

    pub failed-lays : (f : Fail) (y : T) → x ≡ W.to (failed f y) → Lays (exactly C ⨟ G) s (U.to (some f), y) o z → Lays D s x o z
    failed-lays v y e a =
        let f = failed-output v y e in
        let i = failed-inside v y _ e refl in
        record {
          put =
              λ r h. let g = a.put (record { short = r.short; inside = i ∙ r.inside }) (omega (arith, ap length f)) in
              record { is = g.is ∙ ap (λ b. b ++ drop (length b) o) f; long = refl };
        }

-- its marks: those of the arm
module _ {A Fail M N S T R : Type 0} {C : Codec A} {U : Status A Fail} {F : Format M S} {G : Format N T} {W : Arms Fail S T R} {D : Format (Result Fail M N) R}
    (X : OnStatus C U F G W D) (x : R) where
  pub ok-marks : (y : S) (l : List Bool) → x ≡ W.to (ok y) → MarksAre F y l → MarksAre D x l
  ok-marks y l e f = record { are = λ s. f.are s ∙ sym (rw (X.is, arm-of X s x (ok y) e)) }

  pub failed-marks : (f : Fail) (y : T) (l : List Bool) → x ≡ W.to (failed f y) → MarksAre G y l → MarksAre D x l
  failed-marks f y l e g = record { are = λ s. g.are s ∙ sym (rw (X.is, arm-of X s x (failed f y) e)) }

-- a failure that nothing follows
pub alone-marks : {A Fail M S R : Type 0} {C : Codec A} {U : Status A Fail} {F : Format M S} {W : Arms Fail S (Unit {0}) R} {D : Format (Result Fail M (Unit {0})) R}
    (X : OnStatus C U F (exactly void) W D) (x : R) (f : Fail) → x ≡ W.to (failed f tt) → MarksAre D x []
alone-marks X x f e = failed-marks X x f tt [] e (no-marks void tt)

module _ {A Fail M S R : Type 0} {C : Codec A} {U : Status A Fail} {F : Format M S} {W : Arms Fail S (Unit {0}) R} {D : Format (Result Fail M (Unit {0})) R}
    (X : OnStatus C U F (exactly void) W D) (s : List ℕ) (x : R) (f : Fail) where
  pub alone-inside : x ≡ W.to (failed f tt) → true ≡ D.held.inside s x
  alone-inside e = failed-inside X s x f tt true e refl

  pub alone-lays : (o z : List ℕ) → x ≡ W.to (failed f tt) → z ≡ laid (C.kind.write (U.to (some f))) o → Lays D s x o z
  alone-lays o z e g =
      let h : C.kind.write (U.to (some f)) ≡ output D s x = sym (append-nil (C.kind.write (U.to (some f)))) ∙ failed-output X s x f tt e in
      record { put = λ r k. put-laid refl k (g ∙ ap (λ b. laid b o) h) }

-- how many bytes there are: those of the status, and those that follow it
module _ {A Fail M N S T R : Type 0} {k : ℕ} {C : Codec A} {U : Status A Fail} {F : Format M S} {G : Format N T} {W : Arms Fail S T R} {D : Format (Result Fail M N) R}
    (X : OnStatus C U F G W D) (H : Fixed k C) (P : Writer F) (Q : Writer G) where
  abbrev pub result_size : Result Fail S T → ℕ
  result_size (ok x) = k + P.size x
  result_size (failed f y) = k + Q.size y

  sized-by : (s : List ℕ) (x : R) → Ready D s x → (y : Result Fail S T) → x ≡ W.to y → length (output D s x) ≡ result_size y
  sized-by s x r (ok y) e =
      ap length (sym (ok-output X s x y e)) ∙ length-append (C.kind.write (U.to none)) (output F s y)
      ∙ ap₂ (λ a b. a + b) (H.writes (U.to none)) (P.sized s y (record { short = r.short; inside = ok-inside X s x y _ e refl ∙ r.inside }))
  sized-by s x r (failed f y) e =
      ap length (sym (failed-output X s x f y e)) ∙ length-append (C.kind.write (U.to (some f))) (output G s y)
      ∙ ap₂ (λ a b. a + b) (H.writes (U.to (some f))) (Q.sized s y (record { short = r.short; inside = failed-inside X s x f y _ e refl ∙ r.inside }))

  pub status-sized : (s : List ℕ) (x : R) → Ready D s x → length (output D s x) ≡ result_size (W.from x)
  status-sized s x r = sized-by s x r (W.from x) (sym (W.to_from x))

  size_of : (x : R) (y : Result Fail S T) → x ≡ W.to y → result_size y ≡ result_size (W.from x)
  size_of x y e = sym (ap result_size (ap W.from e ∙ W.from_to y))

  pub ok-size : (x : R) (y : S) (n : ℕ) → x ≡ W.to (ok y) → n ≡ P.size y → k + n ≡ result_size (W.from x)
  ok-size x y n e f = ap (λ n. k + n) f ∙ size_of x (ok y) e

  pub failed-size : (x : R) (f : Fail) (y : T) (n : ℕ) → x ≡ W.to (failed f y) → n ≡ Q.size y → k + n ≡ result_size (W.from x)
  failed-size x f y n e g = ap (λ n. k + n) g ∙ size_of x (failed f y) e

  -- where that number is fixed
  pub ok-fixed : (x : R) (y : S) (m : ℕ) → x ≡ W.to (ok y) → m ≡ k + P.size y → m ≡ result_size (W.from x)
  ok-fixed x y m e f = f ∙ size_of x (ok y) e

  pub failed-fixed : (x : R) (f : Fail) (y : T) (m : ℕ) → x ≡ W.to (failed f y) → m ≡ k + Q.size y → m ≡ result_size (W.from x)
  failed-fixed x f y m e g = g ∙ size_of x (failed f y) e

pub alone-size : {A Fail M S R : Type 0} {k : ℕ} {C : Codec A} {U : Status A Fail} {F : Format M S} {W : Arms Fail S (Unit {0}) R} {D : Format (Result Fail M (Unit {0})) R}
    (X : OnStatus C U F (exactly void) W D) (H : Fixed k C) (P : Writer F) (Q : Writer (exactly void)) (x : R) (f : Fail) (m : ℕ) → x ≡ W.to (failed f tt)
    → m ≡ k + Q.size tt → m ≡ result_size X H P Q (W.from x)
alone-size X H P Q x f m e g = failed-fixed X H P Q x f tt m e g

-- no rewriting is longer than the bytes read
module _ {A Fail M N S T R : Type 0} (C : Codec A) (U : Status A Fail) (F : Format M S) (G : Format N T) (W : Arms Fail S T R) (h : Within 0 C.kind) (i : Within 0 F.codec.kind)
    (j : Within 0 G.codec.kind) where
  arm_within : (o : Option Fail) → Within 0 (arm_of F G o).format.codec.kind
  arm_within none = i
  arm_within (some f) = j

  pub status-within : Within 0 (on_status C U F G W).codec.kind
  status-within =
      view-within _ _ (tagged (status_of C U F G W) (arm_of F G)).codec.laws
      (chain-within (mapped-within C U.of U.to U.to_of U.of_to h) arm_within) (λ x m l u w e s f. no_default s)
