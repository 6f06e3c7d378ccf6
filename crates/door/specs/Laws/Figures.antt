-- What the proofs of functions that tell figures cite.
-- Assumes nothing.
use Rattle.std.specs.Prelude.{◌≡◌, refl, List, [], ◌∷◌, ◌++◌, ℕ, zero, suc, ◌+◌, ◌≤◌, ◌<◌, length, take, get_or, set, replicate}
use Rattle.std.proofs.Common.{sym, ap, ◌∙◌, append-nil, arith, add-zero, zero-add, add-suc, suc-add, add-one, length-set, length-append, take_all}
use Rattle.std.proofs.lemmas.List.{length-replicate}
use Rattle.std.proofs.lemmas.List.Edits.{sets}
use Rattle.door.specs.Meaning.Figures.{Shown, Padded, Shows, Says}

-- behind a list's end there are zeros
pub past_end : (l : List ℕ) (n : ℕ) → length l ≤ n → 0 ≡ get_or l n 0
past_end [] n h = refl
past_end (a ∷ l) zero h = absurd (omega arith)
past_end (a ∷ l) (suc n) h = past_end l n (omega arith)

padded : (f : List ℕ) (k n : ℕ) → get_or (f ++ replicate k 0) n 0 ≡ get_or f n 0
padded [] zero n = refl
padded [] (suc k) zero = refl
padded [] (suc k) (suc n) = padded [] k n
padded (a ∷ f) k zero = refl
padded (a ∷ f) k (suc n) = padded f k n

-- one more of a run of stores
sets-next : (l : List ℕ) (k : ℕ) (v : List ℕ) (i : ℕ) → i < length v → set (sets l k (take i v)) (k + i) (get_or v i 0) ≡ sets l k (take (suc i) v)
sets-next l k [] i h = absurd (omega arith)
sets-next l k (a ∷ v) zero h = ap (λ j. set l j a) (add-zero k)
sets-next l k (a ∷ v) (suc i) h =
    ap (λ j. set (sets (set l k a) (suc k) (take i v)) j (get_or v i 0)) (add-suc k i ∙ sym (suc-add k i))
    ∙ sets-next (set l k a) (suc k) v i (omega arith)

-- what is left of i by n stores: of figures f, and of k zeros behind them
pub record Stored (f : List ℕ) (k : ℕ) (i : List ℕ) (n : ℕ) (i' : List ℕ) : Type 0 where
  pub list : i' ≡ sets i 0 (take n (f ++ replicate k 0))
  pub same : length i' ≡ length i

pub stored-none : (f : List ℕ) (k : ℕ) (i : List ℕ) → Stored f k i 0 i
stored-none f k i = record { list = refl; same = refl }

module _ {f i i' : List ℕ} {k n : ℕ} (s : Stored f k i n i') where
  pub stored_next : n < length f + k → {a : ℕ} → a ≡ get_or f n 0 → Stored f k i (n + 1) (set i' n a)
  stored_next h {a} e =
      let g : n < length (f ++ replicate k 0) = simp (length-append, length-replicate) (omega arith) in
      record {
        list = rw (e, ← padded f k n, s.list, add-one) (rw zero-add at (sets-next i 0 (f ++ replicate k 0) n g));
        same = length-set i' n a ∙ s.same;
      }

  pub stored-all : length f + k ≤ n → Padded f k i i'
  stored-all h =
      record {
        shown = record { list = s.list ∙ ap (sets i 0) (take_all n (f ++ replicate k 0) (simp (length-append, length-replicate) (omega arith))) };
      }

-- figures that are others
pub shown-as : {f g i i' : List ℕ} → Shown f i i' → f ≡ g → Shown g i i'
shown-as {i = i} s e = record { list = s.list ∙ ap (sets i 0) e }

-- by the case t that x is
pub at-case : {A B : Type 0} (f : A → B) {x t : A} {y : B} → x ≡ t → y ≡ f t → y ≡ f x
at-case f e g = g ∙ ap f (sym e)

pub shown_case : {A : Type 0} (g : A → List ℕ) {x t : A} {f i i' : List ℕ} → x ≡ t → Shown f i i' → f ≡ g t → Shown (g x) i i'
shown_case g e s h = shown-as s (at-case g e h)

pub shows-at : {A : Type 0} {list : A → List ℕ} {x t : A} {f i i' : List ℕ} → x ≡ t → Shown f i i' → f ≡ list t → Shows list x i i'
shows-at {list = list} e s h = record { shown = shown_case list e s h }

module _ {A B : Type 0} (view : B → A) {list : A → List ℕ} {x t : B} {f i i' : List ℕ} (e : x ≡ t) (s : Shown f i i') (h : f ≡ list (view t)) where
  pub shows-case : Shows list (view x) i i'
  shows-case = record { shown = shown_case (λ z. list (view z)) e s h }

  pub says-case : {code : A → ℕ} {r : ℕ} → r ≡ code (view t) → Says code list (view x) i r i'
  says-case {code} n = record { number = at-case (λ z. code (view z)) e n; shown = shown_case (λ z. list (view z)) e s h }

-- figures that a function made
pub made_as : {r f g i i' : List ℕ} → Padded r 0 i i' → r ≡ f → f ≡ g → Shown g i i'
made_as {r} p e h = shown-as p.shown (append-nil r ∙ e ∙ h)

-- one figure after another, and in parts
pub same_first : {a : ℕ} {r s : List ℕ} → r ≡ s → a ∷ r ≡ a ∷ s
same_first {a} e = ap (λ l. a ∷ l) e

pub other-first : {a b : ℕ} {r s : List ℕ} → a ≡ b → r ≡ s → a ∷ r ≡ b ∷ s
other-first {b = b} {r = r} e g = ap (λ x. x ∷ r) e ∙ ap (λ l. b ∷ l) g

pub two-part : {a b : ℕ} {f r s : List ℕ} → a ∷ b ∷ [] ≡ f → r ≡ s → a ∷ b ∷ r ≡ f ++ s
two-part {f = f} {r = r} e g = ap (λ l. l ++ r) e ∙ ap (λ l. f ++ l) g

pub three-part : {a b c : ℕ} {f r s : List ℕ} → a ∷ b ∷ c ∷ [] ≡ f → r ≡ s → a ∷ b ∷ c ∷ r ≡ f ++ s
three-part {f = f} {r = r} e g = ap (λ l. l ++ r) e ∙ ap (λ l. f ++ l) g

pub ruleset listed = (shown-as, same_first, other-first)
