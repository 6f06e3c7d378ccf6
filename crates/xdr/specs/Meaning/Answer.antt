-- What reading and writing answer.
-- Assumes nothing.
use Rattle.std.specs.Prelude.{◌≡◌, ◌⊎◌, Bool, true, false, cond, List, [], ◌∷◌, ◌++◌, ℕ, ◌+◌, ◌-◌, ◌<◌, leb, length}
use Rattle.xdr.specs.declared.refusal.Refusal.{Refusal}
use Rattle.xdr.specs.declared.refusal.Refusal.TheVariants.{Ended, TooLong, PastEnd}

-- what reading at a place finds: the message, the next place, and whether its bytes are in published form; or a refusal
pub data Answer (M : Type 0) : Type 0 where
  took : M → ℕ → Bool → Answer M
  refused : Refusal → Answer M

abbrev pub map_answer : {A B : Type 0} → (A → B) → Answer A → Answer B
map_answer f (took a n b) = took (f a) n b
map_answer f (refused r) = refused r

-- P holds of what was taken
abbrev pub Taken : {A : Type 0} → (A → Type 0) → Answer A → Type 0
Taken P (took a n b) = P a
Taken P (refused r) = Unit {0}

-- the reading got to place n: what was taken ends there, or the item that is cut begins there
abbrev pub Reaches : {A : Type 0} → ℕ → Answer A → Type 0
Reaches n (took a k b) = k ≡ n
Reaches n (refused r) = (q w : ℕ) → r ≡ Ended q w → q ≡ n

-- the item at q is refused again: its length word was cut in s, and now ends where the bytes end
pub record Again {A : Type 0} (s t : List ℕ) (q : ℕ) (a : Answer A) : Type 0 where
  pub cut : length s - q < 4
  pub whole : q + 4 ≡ length (s ++ t)
  pub wanting : ℕ
  pub is : a ≡ refused (Ended q wanting)

-- the answer once exactly the bytes t that the item at q wanted are appended to s: the item is whole, and ends where the bytes end; or its
-- length word is whole
abbrev pub Came : {A : Type 0} → List ℕ → List ℕ → ℕ → Answer A → Type 0
Came s t q a = Reaches (length (s ++ t)) a ⊎ Again s t q a

-- the ways in which bytes that are read are not in published form: a flag above 1, padding that is not zero,
-- and a tag that is not declared, where the crate reads it as a default
pub data Way : Type 0 where
  odd_flag : Way
  dirty_pad : Way
  stray_tag : Way

-- what is loose in a form: where, counted from the form's first byte, and in which way
pub record Loose : Type 0 where
  pub offset : ℕ
  pub way : Way

-- all at the first byte
abbrev pub here : List Way → List Loose
here [] = []
here (x ∷ w) = record { offset = 0; way = x } ∷ here w

-- all k bytes further on
abbrev pub shifted : ℕ → List Loose → List Loose
shifted k [] = []
shifted k (x ∷ w) = record { offset = k + x.offset; way = x.way } ∷ shifted k w

-- nothing in the list
abbrev pub clean : {A : Type 0} → List A → Bool
clean [] = true
clean (x ∷ w) = false

-- the longest message, source or encoding that is taken
abbrev pub most : ℕ
most = 1048576

-- before it reads, a public reader refuses a message that is too long, then a place past its end
unfoldable pub opened : {A : Type 0} → List ℕ → ℕ → Answer A → Answer A
opened s p x = cond (leb (length s) most) (cond (leb p (length s)) x (refused PastEnd)) (refused TooLong)

-- what a writer says: the place after what it wrote, or a refusal
pub data Written : Type 0 where
  done : ℕ → Written
  unwritten : Refusal → Written
