-- The six idle versions that docs/SCOPE.md names. Each is shut out by the contract that it would have to keep: of every kind, every place
-- and every buffer, and not of chosen bytes alone.
-- Assumes nothing.
use Rattle.std.proofs.Math.Path.{◌≡◌, refl, ap}
use Rattle.std.proofs.Common.{sym, subst, subst₂, ◌∙◌, append-nil, zero-add}
use Rattle.std.specs.Prelude.{Bool, cond, List, [], ◌∷◌, leb, ltb, set, replicate}
use Rattle.std.proofs.Math.Bool.{true, false}
use Prim.Native.Nat.{ℕ, zero, suc, ◌+◌, ◌-◌, ◌*◌, ◌%◌, ◌≤◌}
use native.Mathlib.Omega.{arith}
use Rattle.std.proofs.Math.ListN.{length}
use Rattle.std.proofs.lemmas.List.{length-replicate}
use borrow.Author.Tests.{le-leb, ltb-false}
use Rattle.xdr.specs.Meaning.Bytes.{Bytes, part}
use Rattle.xdr.specs.Meaning.Answer.{Answer, took, refused, Taken, most, opened, Written, done, unwritten}
use Rattle.xdr.specs.Meaning.Kind.{Found, Sound}
use Rattle.xdr.specs.Meaning.Items.{number, word, flag}
use Rattle.xdr.specs.Meaning.Format.{Format, exactly}
use Rattle.xdr.specs.Meaning.Order.{placing}
use Rattle.xdr.specs.Meaning.Public.{Answers, Took, Writes, output, writing, leaving}
use Rattle.xdr.specs.Laws.Held.{taken-means, means-taken, taken-inside}
use Rattle.xdr.specs.Laws.Promise.{keeps}
use Rattle.xdr.specs.Laws.Public.{kept, opened_in}
use Rattle.xdr.specs.Laws.Write.{wrote-back}
use Rattle.rpcwire.specs.Meaning.Stream.{Said, more, complete, Now, stand, Feeds, feed_of, fits_of, in_header, in_fragment, halted, fresh, begin, advance, after, step_at, header_byte, headed, settled}
use Rattle.rpcwire.specs.Meaning.Stream as stream
use Rattle.rpcwire.specs.Meaning.Promise.{state_said, used_said}
use Rattle.rpcwire.specs.Laws.Promise.{promised}
use Rattle.rpcwire.specs.Laws.Steps.{begin-more}
use Rattle.rpcwire.specs.declared.assembler.Assembler.{Assembler}
use Rattle.door.specs.Meaning.Copy.{made, said_of, copy_said, copy_left, Copies}
use Rattle.xdr.specs.declared.refusal.Refusal.{Refusal}
use Rattle.xdr.specs.declared.refusal.Refusal.TheVariants.{Overrun}

module _ {M S : Type 0} (F : Format M S) where
  -- a message that is in range, and not too long to be read
  pub record Sample : Type 0 where
    pub message : M
    pub good : F.codec.kind.Good message
    pub short : length (F.codec.kind.write message) ≤ most
    pub bytes : Bytes (F.codec.kind.write message)

  -- the bytes that it is written as
  abbrev pub bytes_of : Sample → List ℕ
  bytes_of m = F.codec.kind.write m.message

  -- a function that keeps the contract of a public reader
  abbrev pub Reads : (List ℕ → ℕ → Answer S) → Type 0
  Reads f = (s : List ℕ) (p : ℕ) → Bytes s → Answers F s p (f s p)

  -- what it answers to a message's bytes: that message, by all of them, plain
  back : (f : List ℕ → ℕ → Answer S) → Reads f → (m : Sample)
      → (x : S) × (f (bytes_of m) 0 ≡ took x (length (bytes_of m)) true) × (F.held.mean (bytes_of m) x ≡ m.message)
  back f k m =
      let e = bytes_of m in
      let r : F.codec.kind.read e 0 ≡ took m.message (length e) true =
      (keeps F.codec).back m.message [] e 0 m.good (sym (append-nil e)) ∙ ap (λ n. took m.message n true) (zero-add (length e)) in
      let h = means-taken F.held e 0 r in
      (h.0, (k e 0 m.bytes).is ∙ opened_in e 0 (F.held.read e 0) m.short (omega arith) ∙ h.1, h.2)

  -- 1. A reader that refuses all.
  abbrev pub Refuses : Answer S → Type 0
  Refuses (took x n b) = ⊥
  Refuses (refused r) = Unit {0}

  pub refuses_all : (f : List ℕ → ℕ → Answer S) → Reads f → Sample → ((s : List ℕ) (p : ℕ) → Bytes s → Refuses (f s p)) → ⊥
  refuses_all f k m h = subst Refuses (back f k m).1 (h (bytes_of m) 0 m.bytes)

  -- 2. A reader that gives one message for all.
  pub one_for_all : (f : List ℕ → ℕ → Answer S) → Reads f → (m m' : Sample) → (m.message ≡ m'.message → ⊥)
      → (c : M) → ((s : List ℕ) (p : ℕ) → Bytes s → Taken (λ x. F.held.mean s x ≡ c) (f s p)) → ⊥
  one_for_all f k m m' n c h = n (is m ∙ sym (is m'))
    where
      is : (z : Sample) → z.message ≡ c
      is z =
          let g = back f k z in
          sym g.2 ∙ subst (Taken (λ x. F.held.mean (bytes_of z) x ≡ c)) g.1 (h (bytes_of z) 0 z.bytes)

  -- 3. A writer that writes nothing: two values that it says to have written, where the buffer is as it was, are the same message;
  pub writes_nothing : (s s' : List ℕ) (x x' : S) (at : ℕ) (o : List ℕ) {n n' : ℕ} → Writes F s x at o (done n) o → Writes F s' x' at o (done n') o
      → F.held.mean s x ≡ F.held.mean s' x'
  writes_nothing s s' x x' at o c d = cc ((wrote-back F s x at o c).reads, (wrote-back F s' x' at o d).reads)

  -- and it cannot refuse what there is room for.
  pub refuses_room : (s : List ℕ) (x : S) (at : ℕ) (o o' : List ℕ) {r : Refusal} → at ≤ length o → length s ≤ most → F.held.inside s x ≡ true
      → length (output F s x) ≤ most → at + length (output F s x) ≤ length o → Writes F s x at o (unwritten r) o' → ⊥
  unfolding writing placing
  refuses_room s x at o o' {r} h g i l k c =
      let e : ◌≡◌ {A = Written} (unwritten r) (done (at + length (output F s x))) =
      c.says ∙ simp (le-leb at (length o) h, le-leb (length s) most g, i, le-leb (length (output F s x)) most l, le-leb (at + length (output F s x)) (length o) k) in
      let z : ◌≡◌ {A = ℕ} 0 1 = cc e in omega arith

  -- a function that keeps the contract of a public writer, of values in range: what it says, and what it leaves
  abbrev pub Puts : (List ℕ → S → ℕ → List ℕ → Written) → (List ℕ → S → ℕ → List ℕ → List ℕ) → Type 0
  Puts says leaves =
      (s : List ℕ) (x : S) (at : ℕ) (o : List ℕ) → Bytes s → F.codec.kind.Good (F.held.mean s x) → Writes F s x at o (says s x at o) (leaves s x at o)

  -- so no such function leaves every buffer as it was, where there are two messages
  module _ (says : List ℕ → S → ℕ → List ℕ → Written) (leaves : List ℕ → S → ℕ → List ℕ → List ℕ) (k : Puts says leaves)
      (idle : (s : List ℕ) (x : S) (at : ℕ) (o : List ℕ) → leaves s x at o ≡ o) where
    -- a message, as the code holds it of its own bytes
    held_of : (m : Sample) → (x : S) × (F.held.inside (bytes_of m) x ≡ true) × (F.held.mean (bytes_of m) x ≡ m.message)
    held_of m =
        let e = bytes_of m in
        let r : F.codec.kind.read e 0 ≡ took m.message (0 + length e) true = (keeps F.codec).back m.message [] e 0 m.good (sym (append-nil e)) in
        let h = means-taken F.held e 0 r in
        (h.0, taken-inside F.held e 0 h.1, h.2)

    says_done : (m : Sample) (o : List ℕ) → length (bytes_of m) ≤ length o → (w : Written) → says (bytes_of m) (held_of m).0 0 o ≡ w
        → (n : ℕ) × Writes F (bytes_of m) (held_of m).0 0 o (done n) o
    says_done m o h w e =
        let x = held_of m in
        let c = k (bytes_of m) x.0 0 o m.bytes (subst F.codec.kind.Good (sym x.2) m.good) in
        let d : Writes F (bytes_of m) x.0 0 o w o = subst₂ (Writes F (bytes_of m) x.0 0 o) e (idle (bytes_of m) x.0 0 o) c in
        by w d
      where
        l : length (output F (bytes_of m) (held_of m).0) ≡ length (bytes_of m)
        l = ap (λ z. length (F.codec.kind.write z)) (held_of m).2

        by : (w : Written) → Writes F (bytes_of m) (held_of m).0 0 o w o → (n : ℕ) × Writes F (bytes_of m) (held_of m).0 0 o (done n) o
        by (done n) d = (n, d)
        by (unwritten r) d =
            absurd (refuses_room (bytes_of m) (held_of m).0 0 o o (omega arith) m.short (held_of m).1 (omega (arith, l, m.short)) (omega (arith, l)) d)

    pub idles : (m m' : Sample) → (m.message ≡ m'.message → ⊥) → ⊥
    idles m m' n =
        let o : List ℕ = replicate (length (bytes_of m) + length (bytes_of m')) 0 in
        let z : length o ≡ length (bytes_of m) + length (bytes_of m') = length-replicate (length (bytes_of m) + length (bytes_of m')) 0 in
        let c = says_done m o (omega arith) (says (bytes_of m) (held_of m).0 0 o) refl in
        let d = says_done m' o (omega arith) (says (bytes_of m') (held_of m').0 0 o) refl in
        n (sym (held_of m).2 ∙ writes_nothing (bytes_of m) (bytes_of m') (held_of m).0 (held_of m').0 0 o c.1 d.1 ∙ (held_of m').2)

  -- 4. A rewriter that copies its input: of a reading that is not plain, what is written is never the bytes that were read.
  module _ (s : List ℕ) (at start : ℕ) (o o' : List ℕ) (hb : Bytes s) {n e : ℕ} {l : List Bool} (same : part o' start e ≡ part s at n) where
    by_writing : (x : S) → opened s at (F.held.read s at) ≡ took x n false → (w : Written) → writing F s x start (length o) ≡ w
        → made n false l e ≡ said_of n false (F.held.marks s x) w → o' ≡ leaving F s x w start o → ⊥
    by_writing x t (unwritten r) k h v =
        let z : ◌≡◌ {A = ℕ} 0 1 = cc h in omega arith
    by_writing x t (done d) k h v =
        let f : e ≡ d = cc h in
        let y : Took F = record { source = s; place = at; value = x; next = n; plain = false; answers = record { is = sym t; bytes = hb } } in
        let b = (wrote-back F s x start o (record { says = sym k; leaves = v; good = (kept F).in_range y })).bytes in
        let p : false ≡ true = ((kept F).plain_iff y).1 (sym same ∙ ap (part o' start) f ∙ b) in
        let z : ◌≡◌ {A = ℕ} 0 1 = cc p in omega arith

    by_reading : (a : Answer S) → opened s at (F.held.read s at) ≡ a → made n false l e ≡ copy_said F s start o a → o' ≡ copy_left F s start o a → ⊥
    by_reading (refused r) t h v =
        let z : ◌≡◌ {A = ℕ} 0 1 = cc h in omega arith
    by_reading (took x k b) t h v = by_said (writing F s x start (length o)) refl h v
      where
        by_said : (w : Written) → writing F s x start (length o) ≡ w → made n false l e ≡ said_of k b (F.held.marks s x) w → o' ≡ leaving F s x w start o → ⊥
        by_said (unwritten r) u g m =
            let z : ◌≡◌ {A = ℕ} 0 1 = cc g in omega arith
        by_said (done d) u g m =
            let f : opened s at (F.held.read s at) ≡ took x n false = cc (t, g) in
            let f' : made n false l e ≡ made n false (F.held.marks s x) d = cc g in
            by_writing x f (done d) u f' m

    pub copies_input : Copies F s at start o (made n false l e) o' → ⊥
    copies_input c = by_reading (opened s at (F.held.read s at)) refl c.says c.leaves

-- A flag of 256 is such a reading: the copy is not of its bytes.
pub loose_copied : Copies (exactly flag) (0 ∷ 0 ∷ 1 ∷ 0 ∷ []) 0 0 (7 ∷ 7 ∷ 7 ∷ 7 ∷ []) (made 4 false [] 4) (0 ∷ 0 ∷ 0 ∷ 1 ∷ [])
unfolding opened writing placing number word flag
loose_copied = record { says = refl; leaves = refl }

-- 5. An assembler that works on the first feed and only nods after: whatever was fed before, a byte that is fed to a state that fits and is
-- not stopped changes that state; and where bytes of a fragment are left, it is placed.
module _ (s : Assembler) (d : List ℕ) (b : ℕ) (h : fits_of s (length d) ≡ true) (k : s.stopped ≡ false) where
  one_byte : feed_of s (b ∷ []) d ≡ step_at s.left s d b (0 + 1)
  unfolding feed_of advance after
  one_byte = ap (λ (f : Said). advance (stand f d) b) (begin-more s (length d) h k)

  -- what stands after a byte of a fragment, or after a whole header
  settled_state : (c p l : ℕ) (z : Bool) (v u : ℕ) → settled c p l z v ≡ more s u → (s.left ≡ l) × (s.header_count ≡ 0)
  unfolding settled
  settled_state c p zero true v u e = let y : ◌≡◌ {A = ℕ} 0 1 = cc e in absurd (omega arith)
  settled_state c p zero false v u e = (ap (λ (f : Said). (state_said f).left) (sym e), ap (λ (f : Said). (state_said f).header_count) (sym e))
  settled_state c p (suc l) z v u e = (ap (λ (f : Said). (state_said f).left) (sym e), ap (λ (f : Said). (state_said f).header_count) (sym e))

  after_header : (t : Bool) (c p l : ℕ) (z : Bool) (v u : ℕ) → cond t (settled c p l z v) (stream.refused Overrun (halted c p) v) ≡ more s u → s.header_count ≡ 0
  after_header true c p l z v u e = (settled_state c p l z v u e).1
  after_header false c p l z v u e = let y : ◌≡◌ {A = ℕ} 0 1 = cc e in absurd (omega arith)

  after_byte : (t : Bool) (c p w v u : ℕ) → ltb s.header_count 3 ≡ t
      → cond t (more (in_header c p (s.header_count + 1) w) v) (headed c p w v) ≡ more s u → ⊥
  unfolding headed
  after_byte true c p w v u h e = omega (arith, ap (λ (f : Said). (state_said f).header_count) e)
  after_byte false c p w v u h e =
      let y : s.header_count ≡ 0 = after_header (leb (w % 2147483648) (c - p)) c p (w % 2147483648) (leb 2147483648 w) v u e in
      omega (arith, ltb-false s.header_count 3 h)

  steps_on : (l v : ℕ) → s.left ≡ l → {u : ℕ} {d' : List ℕ} → stand (more s u) d' ≡ step_at l s d b v → ⊥
  unfolding step_at header_byte
  steps_on zero v q {u} e =
      after_byte (ltb s.header_count 3) s.capacity s.placed (s.header_value * 256 + b) v u refl (ap (λ (n : Now). n.said) (sym e))
  steps_on (suc l) v q {u} e =
      let y : s.left ≡ l = (settled_state s.capacity (s.placed + 1) l s.last v u (ap (λ (n : Now). n.said) (sym e))).0 in
      omega arith

  pub nods : {u : ℕ} {d' : List ℕ} → Feeds s (b ∷ []) d (more s u) d' → ⊥
  nods c = steps_on s.left (0 + 1) refl (c.is ∙ one_byte)

  placed_at : (l m : ℕ) (v : ℕ) → l ≡ suc m → (step_at l s d b v).held ≡ set d s.placed b
  unfolding step_at
  placed_at zero m v e = absurd (omega arith)
  placed_at (suc l) m v e = refl

  pub places : {m : ℕ} {f : Said} {d' : List ℕ} → s.left ≡ suc m → Feeds s (b ∷ []) d f d' → d' ≡ set d s.placed b
  places {m} e c = ap (λ (n : Now). n.held) (c.is ∙ one_byte) ∙ placed_at s.left m (0 + 1) e

-- The record ABCD in two feeds: the first ends inside it, and the second completes it.
pub first_feed : Feeds (fresh 2) (0x80 ∷ 0 ∷ 0 ∷ 2 ∷ 0xAB ∷ []) (7 ∷ 7 ∷ []) (more (in_fragment 2 1 1 true) 5) (0xAB ∷ 7 ∷ [])
unfolding feed_of begin advance after step_at header_byte headed settled fits_of
first_feed = record { is = refl; bytes = (omega arith, (omega arith, (omega arith, (omega arith, (omega arith, tt))))) }

pub second_feed : Feeds (in_fragment 2 1 1 true) (0xCD ∷ []) (0xAB ∷ 7 ∷ []) (complete 2 (fresh 2) 1) (0xAB ∷ 0xCD ∷ [])
unfolding feed_of begin advance after step_at header_byte headed settled fits_of
second_feed = record { is = refl; bytes = (omega arith, tt) }

-- 6. A made-up count used: of a reader, the next place is as far behind the place as the bytes found there are long, which are a form of the
-- message; of the assembler, the count is the only one that the contract permits.
module _ {M S : Type 0} (F : Format M S) (s : List ℕ) (p : ℕ) where
  pub counts : {x : S} {n : ℕ} {b : Bool} → Answers F s p (took x n b) → Found F.codec.kind s p (F.held.mean s x) n b
  counts {x} {n} {b} c =
      let g = ((kept F).accepted_iff s p c).0 (x, n, b, refl) in
      let r : F.held.read s p ≡ took x n b = sym (opened_in s p (F.held.read s p) g.0 g.1) ∙ sym c.is in
      subst (Sound F.codec.kind s p) (taken-means F.held s p r) (F.codec.laws.sound s p c.bytes)

  pub one_count : {x y : S} {n m : ℕ} {b c : Bool} → Answers F s p (took x n b) → Answers F s p (took y m c) → n ≡ m
  one_count c d = cc ((kept F).one s p c d)

pub one_used : {s : Assembler} {run d d' e : List ℕ} {f g : Said} → Feeds s run d f d' → Feeds s run d g e → used_said f ≡ used_said g
one_used c h = ap used_said ((promised c).one h).0
