-- The promise: demands 2 and 3, of any kind, and what appending bytes to a message changes.
-- Assumes nothing.
use Rattle.std.specs.Prelude.{◌≡◌, ◌↔◌, Bool, true, List, [], ◌++◌, ℕ, ◌+◌, ◌-◌, ◌≤◌, ◌<◌, max, length}
use Rattle.xdr.specs.Meaning.Bytes.{Bytes, Stands, part}
use Rattle.xdr.specs.Meaning.Answer.{took, refused, map_answer, Came, Loose}
use Rattle.xdr.specs.Meaning.Kind.{Kind}
use Rattle.xdr.specs.Meaning.Refusal.{wanting_of}
use Rattle.xdr.specs.declared.refusal.Refusal.{Refusal}
use Rattle.xdr.specs.declared.refusal.Refusal.TheVariants.{Ended}

module _ {M : Type 0} (K : Kind M) where
  -- a message of this kind begins at place p of s
  pub record Begins (s : List ℕ) (p : ℕ) : Type 0 where
    pub message : M
    pub loose : List Loose
    pub used : List ℕ
    pub left : List ℕ
    pub stands : Stands used left s p
    pub form : K.Form message loose used

  pub record Accepted (s : List ℕ) (p : ℕ) : Type 0 where
    pub message : M
    pub next : ℕ
    pub plain : Bool
    pub reads : K.read s p ≡ took message next plain

  pub record Refused (s : List ℕ) (p : ℕ) : Type 0 where
    pub refusal : Refusal
    pub reads : K.read s p ≡ refused refusal

  -- an accepted reading of a string of bytes
  pub record Reading : Type 0 where
    pub input : List ℕ
    pub place : ℕ
    pub message : M
    pub next : ℕ
    pub plain : Bool
    pub bytes : Bytes input
    pub inside : place ≤ length input
    pub reads : K.read input place ≡ took message next plain

  -- the bytes that a reading used, and its rewriting
  abbrev pub used : Reading → List ℕ
  used r = part r.input r.place r.next

  abbrev pub rewriting : Reading → List ℕ
  rewriting r = K.write r.message

  -- the reading of s at p is refused with 1 at q, wanting w bytes: what appending bytes t changes
  pub record Wants (s : List ℕ) (p q w : ℕ) : Type 0 where
    -- the item begins inside s, and wants a byte at least
    pub inside : (p ≤ q) × (q ≤ length s)
    pub some : 0 < w
    -- with fewer bytes it is refused at q again, and wants that many less
    pub few : (t : List ℕ) → length t < w → K.read (s ++ t) p ≡ refused (Ended q (w - length t))
    -- with exactly w the item at q is whole, or its length word is, and it was cut there
    pub enough : (t : List ℕ) → Bytes (s ++ t) → length t ≡ w → Came s t q (K.read (s ++ t) p)

  pub record Promise : Type 0 where
    -- demand 2: bytes are refused exactly if no message of this kind begins there, and else accepted
    pub refused_iff : (s : List ℕ) (p : ℕ) → Bytes s → Refused s p ↔ ¬ (Begins s p)
    pub accepted_iff : (s : List ℕ) (p : ℕ) → Bytes s → Accepted s p ↔ Begins s p
    -- with the first fault that is there: all before its place is whole, and what stands at its place is cut short or not declared
    pub fault_iff : (s : List ℕ) (p : ℕ) (r : Refusal) → Bytes s → (K.read s p ≡ refused r) ↔ K.Fault s p r
    -- what is read is in range, and what was used lies inside
    pub in_range : (r : Reading) → K.Good r.message
    pub within : (r : Reading) → (r.place ≤ r.next) × (r.next ≤ length r.input)
    -- each message written reads back as itself, wherever it stands, using exactly its bytes
    pub back : (m : M) (t s : List ℕ) (p : ℕ) → K.Good m → Stands (K.write m) t s p → K.read s p ≡ took m (p + length (K.write m)) true
    -- demand 3: two accepted readings are the same message exactly when their rewritings are equal bytes
    pub same_iff : (r r' : Reading) → (r.message ≡ r'.message) ↔ (rewriting r ≡ rewriting r')
    -- a rewriting reads back as the same message, and rewrites to itself
    pub again : (r : Reading) → K.read (rewriting r) 0 ≡ took r.message (length (rewriting r)) true
    pub rewrites : (r : Reading) → map_answer K.write (K.read (rewriting r) 0) ≡ took (rewriting r) (length (rewriting r)) true
    -- a reading is plain exactly when the bytes used equal its rewriting
    pub plain_iff : (r : Reading) → (r.plain ≡ true) ↔ (used r ≡ rewriting r)
    -- and exactly when all flags in them are 0 or 1, all padding is zero and all tags are declared: the bytes used are a form, what is
    -- loose in it is one list, and the reading is plain exactly if that is empty
    pub formed : (r : Reading) → (w : List Loose) × K.Form r.message w (used r)
    pub one_list : (r : Reading) (w w' : List Loose) → K.Form r.message w (used r) → K.Form r.message w' (used r) → w ≡ w'
    pub clean_iff : (r : Reading) (w : List Loose) → K.Form r.message w (used r) → (r.plain ≡ true) ↔ (w ≡ [])
    -- appending bytes changes nothing that was taken, and no refusal that wants none; refusal 1 says how many are wanting
    pub stays : (r : Reading) (t : List ℕ) → K.read (r.input ++ t) r.place ≡ took r.message r.next r.plain
    pub final : (s t : List ℕ) (p : ℕ) (r : Refusal) → wanting_of r ≡ 0 → Bytes s → p ≤ length s → K.read s p ≡ refused r → K.read (s ++ t) p ≡ refused r
    pub wants : (s : List ℕ) (p q w : ℕ) → Bytes s → p ≤ length s → K.read s p ≡ refused (Ended q w) → Wants s p q w

  -- some kinds promise also that a rewriting is no longer than the larger of k bytes and the bytes read
  abbrev pub NoLonger : ℕ → Type 0
  NoLonger k = (r : Reading) → length (rewriting r) ≤ max k (r.next - r.place)
