-- The flags of a message written anew where it stands: what the private functions of a sattr3's rewriting promise, and what their proofs cite.
-- Assumes nothing.
use Rattle.std.specs.Prelude.{◌≡◌, refl, Bool, true, false, cond, List, [], ◌++◌, ℕ, ◌+◌, ◌≤◌, length, take, drop, Result, Ok, Err}
use Rattle.std.proofs.Common.{sym, ap, ap₂, subst, ◌∙◌, append_assoc, arith, length-append, length-drop, take_at, drop_at, length-take-le, Fits}
use Rattle.std.proofs.Math.Option.{Option, none, some}
use Rattle.std.specs.Int.{w64}
use Rattle.xdr.specs.Meaning.Answer.{took, Way, Loose, clean}
use Rattle.xdr.specs.Meaning.Kind.{Codec}
use Rattle.xdr.specs.Meaning.Codecs.{◌⨾◌}
use Rattle.xdr.specs.Meaning.Combinators.{means}
use Rattle.xdr.specs.Meaning.Items.{flag, if, option}
use Rattle.xdr.specs.Meaning.Shapes.{If, to_option}
use Rattle.xdr.specs.Meaning.Public.{laid}
use Rattle.xdr.specs.Meaning.Views.{view}
use Rattle.xdr.specs.Laws.Answers.{on, off}
use Rattle.xdr.specs.Laws.Fixed.{Fixed, flag-fixed, hyper-fixed}
use Rattle.xdr.specs.Laws.Lays.{after, tail_of}
use Rattle.xdr.specs.Laws.Padding.{flag-length}
use Rattle.xdr.specs.Laws.Write.{laid-at}
use Rattle.xdr.specs.declared.answer.Took.{Took}
use Rattle.xdr.specs.declared.refusal.Refusal.{Refusal}
use Rattle.nfs.specs.Meaning.Set.{set_time}
use Rattle.door.specs.Laws.Still.{Still, still-two, still-hyper, still-time}
use Rattle.door.specs.Laws.Walked.{from_atime, from_size}

-- whatever message of C has a form at place p of o, that form is then its published one, and nothing else is another
pub record Settled {X : Type 0} (C : Codec X) (p : ℕ) (o o' : List ℕ) : Type 0 where
  pub same : length o' ≡ length o
  pub anew : (m : X) (w : List Loose) (a e t : List ℕ) → C.kind.Form m w e → length a ≡ p → o ≡ a ++ (e ++ t) → o' ≡ a ++ (C.kind.write m ++ t)

-- the same of a flag; r is the place after what it sets, which are k bytes
pub record FlagSettled (k p : ℕ) (o : List ℕ) (r : ℕ) (o' : List ℕ) : Type 0 where
  pub same : length o' ≡ length o
  pub anew : (v : Bool) (w : List Loose) (a e t : List ℕ) → flag.kind.Form v w e → length a ≡ p → o ≡ a ++ (e ++ t) → o' ≡ a ++ (flag.kind.write v ++ t)
  pub next : (v : Bool) (w : List Loose) (a e t : List ℕ) → flag.kind.Form v w e → length a ≡ p → o ≡ a ++ (e ++ t) → r ≡ p + (4 + cond v k 0)

-- a form that stands there is read
module _ (p : ℕ) (o : List ℕ) (v : Bool) (w : List Loose) (a e t : List ℕ) (form : flag.kind.Form v w e) (l : length a ≡ p) (d : o ≡ a ++ (e ++ t)) where
  stands : drop p o ≡ e ++ t
  stands = ap (drop p) d ∙ drop_at a (e ++ t) p l

  found : flag.kind.read o p ≡ took v (p + length e) (clean w)
  found = flag.laws.complete v w e t o p form stands

  four : length e ≡ 4
  four = let s = flag-fixed.reads o p found in omega (arith, s.next)

  rest : drop (p + 4) o ≡ t
  rest =
      ap (drop (p + 4)) (d ∙ sym (append_assoc a e t)) ∙ drop_at (a ++ e) t (p + 4) (length-append a e ∙ omega (arith, four))

  laid-anew : {z : List ℕ} → z ≡ laid (flag.kind.write v) (tail_of p o) → after p o z ≡ a ++ (flag.kind.write v ++ t)
  laid-anew {z} f =
      let n : length o ≡ p + (4 + length t) = ap length d ∙ length-append a (e ++ t) ∙ omega (arith, length-append e t, four) in
      let m = flag-length v in
      laid-at o (flag.kind.write v) p (omega arith) f
      ∙ ap₂ (λ x y. x ++ (flag.kind.write v ++ y)) (ap (take p) d ∙ take_at a (e ++ t) p l) (ap (λ i. drop (p + i) o) m ∙ rest)

module _ (k p : ℕ) (o : List ℕ) (r : Result (Took Bool) Refusal) (e : view r ≡ flag.kind.read o p) where
  -- no flag stands there
  pub not-settled : {q : Refusal} → r ≡ Err q → FlagSettled k p o p o
  not-settled f =
      let no : (v : Bool) (n : ℕ) (b : Bool) → flag.kind.read o p ≡ took v n b → ⊥ =
      λ v n b g. let z : ◌≡◌ {A = ℕ} 0 1 = cc (off e f, g) in omega arith in
      record {
        same = refl;
        anew = λ v w a e t form l d. absurd (no v (p + length e) (clean w) (found p o v w a e t form l d));
        next = λ v w a e t form l d. absurd (no v (p + length e) (clean w) (found p o v w a e t form l d));
      }

  -- one does, and there is room for it
  flag-room : {x : Took Bool} → r ≡ Ok x → (p + 4 ≤ length o) × (x.next ≡ p + 4)
  flag-room f = let s = flag-fixed.reads o p (on e f) in (omega (arith, s.room), s.next)

  pub flag-place : {x : Took Bool} → r ≡ Ok x → p ≤ length o
  flag-place f = omega (arith, (flag-room f).0)

  pub next_fits : {x : Took Bool} → r ≡ Ok x → length o ≤ 1048576 → k ≤ 8 → Fits w64 (x.next + k)
  next_fits f g h = omega (arith, (flag-room f).0, (flag-room f).1)

  -- the flag that was read is laid
  pub laid-same-long : {x : Took Bool} → r ≡ Ok x → {z : List ℕ} → z ≡ laid (flag.kind.write x.value) (tail_of p o) → length (after p o z) ≡ length o
  laid-same-long {x} f g =
      let m = flag-length x.value in
      let h = (flag-room f).0 in
      let i : p + length (flag.kind.write x.value) ≤ length o = omega arith in
      ap length (laid-at o (flag.kind.write x.value) p i g) ∙ length-append (take p o) (flag.kind.write x.value ++ drop (p + length (flag.kind.write x.value)) o)
      ∙ omega (arith, length-append (flag.kind.write x.value) (drop (p + length (flag.kind.write x.value)) o), length-take-le p o (omega arith), length-drop (p + length (flag.kind.write x.value)) o)

  flag-settled : {x : Took Bool} → r ≡ Ok x → {z : List ℕ} → z ≡ laid (flag.kind.write x.value) (tail_of p o) → {m : ℕ}
      → m ≡ cond x.value (x.next + k) x.next → FlagSettled k p o m (after p o z)
  flag-settled {x} f {z} g {m} h =
      record {
        same = laid-same-long f g;
        anew = λ v' w a e' t form l d.
            let i : x.value ≡ v' = cc (on e f, found p o v' w a e' t form l d) in
            laid-anew p o v' w a e' t form l d (g ∙ ap (λ u. laid (flag.kind.write u) (tail_of p o)) i);
        next = λ v' w a e' t form l d.
            let i : x.value ≡ v' = cc (on e f, found p o v' w a e' t form l d) in
            let j : x.next ≡ p + length e' = cc (on e f, found p o v' w a e' t form l d) in
            let q = four p o v' w a e' t form l d in
            h ∙ ap (λ u. cond u (x.next + k) x.next) i ∙ by v' (omega arith);
      }
    where
      by : (v : Bool) → x.next ≡ p + 4 → cond v (x.next + k) x.next ≡ p + (4 + cond v k 0)
      by true e = omega arith
      by false e = omega arith

  -- by whether it is set
  pub settled-set : {x : Took Bool} → r ≡ Ok x → {z : List ℕ} → z ≡ laid (flag.kind.write x.value) (tail_of p o) → x.value ≡ true
      → FlagSettled k p o (x.next + k) (after p o z)
  settled-set {x} f g h = flag-settled f g (ap (λ u. cond u (x.next + k) x.next) (sym h))

  pub settled-unset : {x : Took Bool} → r ≡ Ok x → {z : List ℕ} → z ≡ laid (flag.kind.write x.value) (tail_of p o) → x.value ≡ false
      → FlagSettled k p o x.next (after p o z)
  settled-unset {x} f g h = flag-settled f g (ap (λ u. cond u (x.next + k) x.next) (sym h))

-- a kind in which nothing is ever loose
module _ {X : Type 0} {C : Codec X} (S : Still C) where
  -- they are written as they stand
  still-bytes : (m : X) (w : List Loose) (e : List ℕ) → C.kind.Form m w e → e ≡ C.kind.write m
  still-bytes m w e f = C.laws.plain m e (subst (λ u. C.kind.Form m u e) (S.none m w e f) f)

pub still-times : Still from_atime
still-times = still-two set_time (λ a. set_time) still-time (λ a. still-time)

-- what is still is settled as it stands
pub still-settled : {X : Type 0} {C : Codec X} → Still C → (p : ℕ) (o : List ℕ) → Settled C p o o
still-settled {C = C} S p o =
    record { same = refl; anew = λ m w a e t f l d. d ∙ ap (λ z. a ++ (z ++ t)) (still-bytes S m w e f) }

-- an optional value of k bytes: its flag, and what stands behind it
record Opened {M : Type 0} (k : ℕ) (C : Codec M) (x : Option M) (e : List ℕ) : Type 0 where
  set : Bool
  loose : List Loose
  e₁ : List ℕ
  e₂ : List ℕ
  form : flag.kind.Form set loose e₁
  bytes : e ≡ e₁ ++ e₂
  size : length e₂ ≡ cond set k 0
  written : (option C).kind.write x ≡ flag.kind.write set ++ e₂

opened-option : {M : Type 0} {k : ℕ} {C : Codec M} → Fixed k C → Still C → (x : Option M) (w : List Loose) (e : List ℕ) → (option C).kind.Form x w e → Opened k C x e
opened-option {M} {k} {C} F S x w e f = by f.of.0 f.of.1 f.form.w₁ f.form.w₂ f.form.e₁ f.form.e₂ f.form.form₁ f.form.form₂ f.form.bytes f.sees
  where
    by : (b : Bool) (c : If M b) (w₁ w₂ : List Loose) (e₁ e₂ : List ℕ) → flag.kind.Form b w₁ e₁ → (if C b).kind.Form c w₂ e₂ → e ≡ e₁ ++ e₂
        → {l : List Way} → means (to_option M b c) [] ≡ means x l
        → Opened k C x e
    by true c w₁ w₂ e₁ e₂ g h d s =
        let i : e₂ ≡ C.kind.write c = still-bytes S c w₂ e₂ h in
        let j : some c ≡ x = cc s in
        record {
          set = true;
          loose = w₁;
          e₁ = e₁;
          e₂ = e₂;
          form = g;
          bytes = d;
          size = ap length i ∙ F.writes c;
          written = ap (option C).kind.write (sym j) ∙ ap (λ z. flag.kind.write true ++ z) (sym i);
        }
    by false c w₁ w₂ e₁ e₂ g h d s =
        let j : none ≡ x = cc s in
        record {
          set = false;
          loose = w₁;
          e₁ = e₁;
          e₂ = e₂;
          form = g;
          bytes = d;
          size = ap length h.1;
          written = ap (option C).kind.write (sym j) ∙ ap (λ z. flag.kind.write false ++ z) (sym h.1);
        }

-- an optional value, and what follows it
pub settle-next : {X Y : Type 0} {k : ℕ} {C : Codec X} (F : Fixed k C) (S : Still C) (B : Codec Y) (p : ℕ) (o : List ℕ) {r : ℕ} {o₁ o₂ : List ℕ} → FlagSettled k p o r o₁
    → Settled B r o₁ o₂ → Settled (option C ⨾ B) p o o₂
settle-next {k = k} {C} F S B p o {r} {o₁} {o₂} f g = record { same = g.same ∙ f.same; anew = anew }
  where
    anew : (m : _) (w : List Loose) (a e t : List ℕ) → (option C ⨾ B).kind.Form m w e → length a ≡ p → o ≡ a ++ (e ++ t)
        → o₂ ≡ a ++ ((option C ⨾ B).kind.write m ++ t)
    anew m w a e t h l d =
        let x = opened-option F S m.0 h.w₁ h.e₁ h.form₁ in
        let u : List ℕ = x.e₂ ++ (h.e₂ ++ t) in
        let split : e ++ t ≡ x.e₁ ++ u =
        ap (λ z. z ++ t) (h.bytes ∙ ap (λ z. z ++ h.e₂) x.bytes) ∙ simp append_assoc in
        let i = f.anew x.set x.loose a x.e₁ u x.form l (d ∙ ap (λ z. a ++ z) split) in
        let j = f.next x.set x.loose a x.e₁ u x.form l (d ∙ ap (λ z. a ++ z) split) in
        let b : List ℕ = a ++ (flag.kind.write x.set ++ x.e₂) in
        let long : length b ≡ r =
        length-append a (flag.kind.write x.set ++ x.e₂) ∙ omega (arith, length-append (flag.kind.write x.set) x.e₂, flag-length x.set, x.size) in
        let shape : a ++ (flag.kind.write x.set ++ u) ≡ b ++ (h.e₂ ++ t) = simp append_assoc in
        g.anew m.1 h.w₂ b h.e₂ t h.form₂ long (i ∙ shape) ∙ ap (λ z. (a ++ z) ++ (B.kind.write m.1 ++ t)) (sym x.written) ∙ simp append_assoc

-- the last one, and what was laid so far: for the callers
pub flag-long : {k p r : ℕ} {o o' : List ℕ} → FlagSettled k p o r o' → length o' ≡ length o
flag-long f = f.same

pub flag-short : {k p r m : ℕ} {o o' : List ℕ} → FlagSettled k p o r o' → length o ≤ m → length o' ≤ m
flag-short f h = let e = f.same in omega arith

pub both_long : {X : Type 0} {B : Codec X} {k p r : ℕ} {o o₁ o₂ : List ℕ} → FlagSettled k p o r o₁ → Settled B r o₁ o₂ → length o₂ ≡ length o
both_long f g = g.same ∙ f.same

pub settle-last : {p r : ℕ} {o o₁ : List ℕ} → FlagSettled 8 p o r o₁ → Settled from_size p o o₁
settle-last {p} {r} {o} {o₁} f = settle-next hyper-fixed still-hyper from_atime p o f (still-settled still-times r o₁)
