-- The contracts of public readers and writers.
-- Assumes nothing.
use Rattle.std.specs.Prelude.{◌≡◌, ◌↔◌, ◌⊎◌, Bool, true, cond, List, [], ◌++◌, ℕ, ◌-◌, ◌≤◌, ◌<◌, leb, length, take, drop}
use Rattle.xdr.specs.Meaning.Bytes.{Bytes, part}
use Rattle.xdr.specs.Meaning.Answer.{Answer, took, refused, map_answer, Came, Loose, most, opened, Written, done, unwritten}
use Rattle.xdr.specs.Meaning.Order.{placing}
use Rattle.xdr.specs.Meaning.Promise.{Begins}
use Rattle.xdr.specs.Meaning.Format.{Format}
use Rattle.xdr.specs.Meaning.Refusal.{OfReading, wanting_of}
use Rattle.xdr.specs.declared.refusal.Refusal.{Refusal}
use Rattle.xdr.specs.declared.refusal.Refusal.TheVariants.{Ended, TooLong, PastEnd}

module _ {M S : Type 0} (F : Format M S) where
  -- a public reader's answer at a place of a source: the format's reading, once refusals 3 and 9 are tested; and the source is bytes
  pub record Answers (s : List ℕ) (p : ℕ) (a : Answer S) : Type 0 where
    pub is : a ≡ opened s p (F.held.read s p)
    pub bytes : Bytes s

  module _ (s : List ℕ) (x : S) where
    -- the bytes that x of the source s is written as
    abbrev pub output : List ℕ
    output = F.codec.kind.write (F.held.mean s x)

    -- what a public writer says at a place of a buffer of some length
    unfoldable pub writing : ℕ → ℕ → Written
    writing at len = placing (length s) (F.held.inside s x) (length output) len at

    -- what the buffer holds afterwards: a refusal leaves it as it was
    abbrev pub leaving : Written → ℕ → List ℕ → List ℕ
    leaving (done n) at o = take at o ++ (output ++ drop n o)
    leaving (unwritten r) at o = o

    -- what was written is a message in range
    abbrev pub InRange : Written → Type 0
    InRange (done n) = F.codec.kind.Good (F.held.mean s x)
    InRange (unwritten r) = Unit {0}

    -- a public writer's answer w, and the buffer o' that it leaves of o
    pub record Writes (at : ℕ) (o : List ℕ) (w : Written) (o' : List ℕ) : Type 0 where
      pub says : w ≡ writing at (length o)
      pub leaves : o' ≡ leaving w at o
      pub good : InRange w

    -- what was written reads back as itself
    pub record Back (at n : ℕ) (o' : List ℕ) : Type 0 where
      -- the buffer's bytes from `at` up to n are the message's
      pub bytes : part o' at n ≡ output
      -- reading there takes the same message, plain, by exactly those bytes
      pub reads : F.codec.kind.read o' at ≡ took (F.held.mean s x) n true
      -- what the code's reader holds there means the same message
      pub held : (y : S) × (F.held.read o' at ≡ took y n true) × (F.held.mean o' y ≡ F.held.mean s x)
      -- and so does the answer of a public reader, in a buffer that is not too long for it
      pub answers : {a : Answer S} → length o' ≤ most → Answers o' at a → (y : S) × (a ≡ took y n true) × (F.held.mean o' y ≡ F.held.mean s x)

-- what laying bytes at the front of a buffer leaves: the buffer as it was where they do not fit
unfoldable pub laid : List ℕ → List ℕ → List ℕ
laid bs o = cond (leb (length bs) (length o)) (bs ++ drop (length bs) o) o

-- the same of a message with pieces: nothing is laid where the source is too long or a piece lies outside it
unfoldable pub laid_of : {M S : Type 0} → Format M S → List ℕ → S → List ℕ → List ℕ
unfolding laid
laid_of F s x o = cond (leb (length s) most) (cond (F.held.inside s x) (laid (output F s x) o) o) o

-- demands 2 and 3, of the answers that a public reader gives
module _ {M S : Type 0} (F : Format M S) where
  -- an answer of a public reader that took something
  pub record Took : Type 0 where
    pub source : List ℕ
    pub place : ℕ
    pub value : S
    pub next : ℕ
    pub plain : Bool
    pub answers : Answers F source place (took value next plain)

  -- the message that it took, and its rewriting
  abbrev pub message : Took → M
  message t = F.held.mean t.source t.value

  abbrev pub rewritten : Took → List ℕ
  rewritten t = F.codec.kind.write (message t)

  -- the bytes that it used
  abbrev pub used_by : Took → List ℕ
  used_by t = part t.source t.place t.next

  -- the answer a for s, and the answer a' for s with t appended, which is not too long
  pub record Later (s t : List ℕ) (p : ℕ) (a a' : Answer S) : Type 0 where
    pub before : Answers F s p a
    pub then : Answers F (s ++ t) p a'
    pub fits : length (s ++ t) ≤ most

  pub record Kept : Type 0 where
    -- taken exactly if the source is short enough, the place is in it, and a message of this kind begins there
    pub accepted_iff : (s : List ℕ) (p : ℕ) {a : Answer S} → Answers F s p a
        → ((x : S) × (n : ℕ) × (b : Bool) × (a ≡ took x n b)) ↔ ((length s ≤ most) × (p ≤ length s) × Begins F.codec.kind s p)
    -- by 3, 9, or what reading a kind can give
    pub numbered : (s : List ℕ) (p : ℕ) {r : Refusal} → Answers F s p (refused r) → (r ≡ TooLong) ⊎ ((r ≡ PastEnd) ⊎ OfReading r)
    -- its pieces lie inside, it is in range, and so does what was used
    pub inside : (t : Took) → F.held.inside t.source t.value ≡ true
    pub in_range : (t : Took) → F.codec.kind.Good (message t)
    pub within : (t : Took) → (t.place ≤ t.next) × (t.next ≤ length t.source)
    -- else refused with the first fault that is there
    pub fault_iff : (s : List ℕ) (p : ℕ) (r : Refusal) {a : Answer S} → Answers F s p a → length s ≤ most → p ≤ length s
        → (a ≡ refused r) ↔ F.codec.kind.Fault s p r
    -- two messages are equal exactly if their rewritings are; a rewriting reads back, and is rewritten to itself
    pub same_iff : (t t' : Took) → (message t ≡ message t') ↔ (rewritten t ≡ rewritten t')
    pub again : (t : Took) → F.codec.kind.read (rewritten t) 0 ≡ took (message t) (length (rewritten t)) true
    pub rewrites : (t : Took) → map_answer F.codec.kind.write (F.codec.kind.read (rewritten t) 0) ≡ took (rewritten t) (length (rewritten t)) true
    -- plain exactly if the bytes used are the rewriting, which is exactly if nothing is loose in them: they are a form, and its list is one
    pub plain_iff : (t : Took) → (t.plain ≡ true) ↔ (used_by t ≡ rewritten t)
    pub formed : (t : Took) → (w : List Loose) × F.codec.kind.Form (message t) w (used_by t)
    pub one_list : (t : Took) (w w' : List Loose) → F.codec.kind.Form (message t) w (used_by t) → F.codec.kind.Form (message t) w' (used_by t) → w ≡ w'
    pub clean_iff : (t : Took) (w : List Loose) → F.codec.kind.Form (message t) w (used_by t) → (t.plain ≡ true) ↔ (w ≡ [])
    -- appending bytes changes nothing that was taken, and no refusal that wants none
    pub stays : {s t : List ℕ} {p : ℕ} {x : S} {n : ℕ} {b : Bool} {a : Answer S} → Later s t p (took x n b) a
        → (y : S) × (a ≡ took y n b) × (F.held.mean (s ++ t) y ≡ F.held.mean s x)
    pub final : {s t : List ℕ} {p : ℕ} {r : Refusal} {a : Answer S} → wanting_of r ≡ 0 → Later s t p (refused r) a → OfReading r → a ≡ refused r
    -- refusal 1 wants a byte at least; with fewer bytes than it wants it stays at its place, wanting that many less; with exactly as many the
    -- item is whole, or its length word is, where that was cut
    pub some : {s : List ℕ} {p q w : ℕ} → Answers F s p (refused (Ended q w)) → 0 < w
    pub few : {s t : List ℕ} {p q w : ℕ} {a : Answer S} → Later s t p (refused (Ended q w)) a → length t < w → a ≡ refused (Ended q (w - length t))
    pub enough : {s t : List ℕ} {p q w : ℕ} {a : Answer S} → Later s t p (refused (Ended q w)) a → length t ≡ w → Came s t q a
    -- two answers that the contract permits are one
    pub one : (s : List ℕ) (p : ℕ) {a b : Answer S} → Answers F s p a → Answers F s p b → a ≡ b
