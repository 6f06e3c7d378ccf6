-- What a writer leaves in its buffer: fields one after another, each lent the tail; and that what was written reads back as itself.
-- Assumes nothing.
use Rattle.std.proofs.Math.Path.{◌≡◌, refl, sym, ap}
use Rattle.std.proofs.Common.{ap₂, ◌∙◌, length-append, zero-add, drop-drop, take_at, drop_at, length-take-le}
use Rattle.std.specs.Prelude.{Bool, true, false, ℕ, ◌+◌, ◌-◌, ◌<◌, ◌≤◌, leb}
use mathlib.Core.List.{List, [], ◌++◌, append_assoc, append-nil}
use native.Mathlib.Omega.{arith}
use Rattle.std.proofs.Math.ListN.{length, take, drop, length-drop, drop_of_length-le}
use Rattle.std.proofs.lemmas.List.Edits.{sets, sets-eq}
use Rattle.std.proofs.Math.Seq.{take_all, take-length}
use borrow.Author.Tests.{le-leb, lt-leb, leb-true}
use borrow.Rule.Slice.PartMut.{mid_of, put_mid, mid_len}
use Rattle.xdr.specs.Meaning.Answer.{took, most, Written, done, unwritten}
use Rattle.xdr.specs.Meaning.Kind.{Codec}
use Rattle.xdr.specs.Meaning.Format.{Format, exactly}
use Rattle.xdr.specs.Meaning.Order.{placing}
use Rattle.xdr.specs.Meaning.Public.{output, writing, leaving, Writes, Back, laid, laid_of}
use Rattle.xdr.specs.Laws.Promise.{keeps}
use Rattle.xdr.specs.Laws.Held.{means-taken}
use Rattle.xdr.specs.Laws.Public.{opened_in}
use Rattle.xdr.specs.declared.refusal.Refusal.TheVariants.{NoRoom, PastEnd, TooLong, Outside}
use Rattle.xdr.specs.declared.refusal.Refusal.{Refusal}

-- ys is xs with bs at its front, n of them
pub record Put (xs ys : List ℕ) (n : ℕ) (bs : List ℕ) : Type 0 where
  pub is : ys ≡ bs ++ drop n xs
  pub long : length bs ≡ n

pub start : (xs : List ℕ) → Put xs xs 0 []
start xs = record { is = refl; long = refl }

module _ {xs ys bs : List ℕ} {n : ℕ} (f : Put xs ys n bs) where
  pub put-length : n ≤ length xs → length ys ≡ length xs
  put-length h = ap length f.is ∙ length-append bs (drop n xs) ∙ omega (arith, f.long, length-drop n xs)

  -- the tail from n on is lent whole
  tail : n ≤ length xs → mid_of n (length ys - n) ys ≡ drop n xs
  tail h =
      let e : drop n ys ≡ drop n xs = ap (drop n) f.is ∙ drop_at bs (drop n xs) n f.long in
      ap (take (length ys - n)) e ∙ take_all (length ys - n) (drop n xs) (omega (arith, length-drop n xs, put-length h))

  pub room : (m : ℕ) → n + m ≤ length xs → m ≤ length (mid_of n (length ys - n) ys)
  room m h = rw (tail (omega arith)) (omega (arith, length-drop n xs))

  -- one field more, by a writer that is lent the tail
  pub field : {zs cs : List ℕ} {m : ℕ} → n + m ≤ length xs → Put (mid_of n (length ys - n) ys) zs m cs
      → Put xs (put_mid n (length ys - n) ys zs) (n + m) (bs ++ cs)
  field {zs} {cs} {m} h g =
      let k : n ≤ length xs = omega arith in
      let d : length (drop n ys) ≤ length ys - n = omega (arith, length-drop n ys) in
      let front : take n ys ≡ bs = ap (take n) f.is ∙ take_at bs (drop n xs) n f.long in
      let back : drop (length ys - n) (drop n ys) ≡ [] = drop_of_length-le (drop n ys) {i = length ys - n} d in
      let mid : zs ≡ cs ++ drop (n + m) xs = g.is ∙ ap (λ z. cs ++ drop m z) (tail k) ∙ ap (λ z. cs ++ z) (drop-drop m n xs) in
      record {
        is =
            ap₂ (λ y z. y ++ (zs ++ z)) front back ∙ ap (λ z. bs ++ z) (append-nil zs ∙ mid)
            ∙ sym (append_assoc bs cs (drop (n + m) xs));
        long = length-append bs cs ∙ omega (arith, f.long, g.long);
      }

pub put_same : {xs ys bs cs : List ℕ} {n : ℕ} → bs ≡ cs → Put xs ys n bs → Put xs ys n cs
put_same {xs} {ys} {bs} {cs} {n} e f = record { is = f.is ∙ ap (λ z. z ++ drop n xs) e; long = ap length (sym e) ∙ f.long }

module _ {M S : Type 0} (F : Format M S) (s : List ℕ) (x : S) where
  -- what a writer's parts are handed: the source is not too long, and the pieces lie inside
  pub record Ready : Type 0 where
    pub short : length s ≤ most
    pub inside : F.held.inside s x ≡ true

  module _ (at : ℕ) (o : List ℕ) where
    pub writes-past : length o < at → Writes F s x at o (unwritten PastEnd) o
    unfolding writing placing
    writes-past h = record { says = simp (lt-leb at (length o) h); leaves = refl; good = tt }

    module _ (h : at ≤ length o) where
      module _ (g : length s ≤ most) where
        module _ (i : F.held.inside s x ≡ true) where
          module _ (l : length (output F s x) ≤ most) where
            pub writes_short : length o < at + length (output F s x) → Writes F s x at o (unwritten (NoRoom (length (output F s x)))) o
            unfolding writing placing
            writes_short r =
                record {
                  says =
                      simp
                      (le-leb at (length o) h, le-leb (length s) most g, i, le-leb (length (output F s x)) most l, lt-leb (at + length (output F s x)) (length o) r);
                  leaves = refl;
                  good = tt;
                }

            -- by a writer that is lent the tail from `at` on
            pub writes-done : F.codec.kind.Good (F.held.mean s x) → {zs : List ℕ} {n : ℕ} → at + n ≤ length o → Put (mid_of at (length o - at) o) zs n (output F s x)
                → Writes F s x at o (done (at + n)) (put_mid at (length o - at) o zs)
            unfolding writing placing
            writes-done good {zs} {n} r f =
                let e : length (output F s x) ≡ n = f.long in
                let r' : at + length (output F s x) ≤ length o = omega arith in
                let d : drop (length o - at) (drop at o) ≡ [] =
                drop_of_length-le (drop at o) {i = length o - at} (omega (arith, length-drop at o)) in
                let t : mid_of at (length o - at) o ≡ drop at o = take_all (length o - at) (drop at o) (omega (arith, length-drop at o)) in
                let mid : zs ≡ output F s x ++ drop (at + n) o = f.is ∙ ap (λ z. output F s x ++ drop n z) t ∙ ap (λ z. output F s x ++ z) (drop-drop n at o) in
                record {
                  says =
                      rw
                      (le-leb at (length o) h, le-leb (length s) most g, i, le-leb (length (output F s x)) most l, le-leb (at + length (output F s x)) (length o) r', e);
                  leaves = ap (λ z. take at o ++ (zs ++ z)) d ∙ ap (λ z. take at o ++ z) (append-nil zs ∙ mid);
                  good = good;
                }

    -- a writer that is done: it was at a place of its buffer, the source and the encoding were not too long, and the pieces lay inside
    pub record Done (n : ℕ) : Type 0 where
      pub place : at ≤ length o
      pub short : length s ≤ most
      pub inside : F.held.inside s x ≡ true
      pub small : length (output F s x) ≤ most
      pub room : at + length (output F s x) ≤ length o
      pub next : n ≡ at + length (output F s x)

    pub was-done : {n : ℕ} → done n ≡ writing F s x at (length o) → Done n
    unfolding writing placing
    was-done {n} e =
        go (leb at (length o)) refl (leb (length s) most) refl (F.held.inside s x) refl (leb (length (output F s x)) most) refl
        (leb (at + length (output F s x)) (length o)) refl
      where
        no : {r : Refusal} → done n ≡ unwritten r → Done n
        no f = let z : ◌≡◌ {A = ℕ} 0 1 = cc in absurd (omega arith)

        go : (a : Bool) → leb at (length o) ≡ a → (b : Bool) → leb (length s) most ≡ b → (c : Bool) → F.held.inside s x ≡ c
            → (d : Bool) → leb (length (output F s x)) most ≡ d → (r : Bool) → leb (at + length (output F s x)) (length o) ≡ r → Done n
        go false ha b hb c hc d hd r hr = no {r = PastEnd} (simp ha at e)
        go true ha false hb c hc d hd r hr = no {r = TooLong} (simp (ha, hb) at e)
        go true ha true hb false hc d hd r hr = no {r = Outside} (simp (ha, hb, hc) at e)
        go true ha true hb true hc false hd r hr = no {r = TooLong} (simp (ha, hb, hc, hd) at e)
        go true ha true hb true hc true hd false hr = no (simp (ha, hb, hc, hd, hr) at e)
        go true ha true hb true hc true hd true hr =
            let f : ◌≡◌ {A = Written} (done n) (done (at + length (output F s x))) = simp (ha, hb, hc, hd, hr) at e in
            record {
              place = leb-true at (length o) ha;
              short = leb-true (length s) most hb;
              inside = hc;
              small = leb-true (length (output F s x)) most hd;
              room = leb-true (at + length (output F s x)) (length o) hr;
              next = cc f;
            }

    -- for every format: whatever a public writer wrote reads back as itself
    pub wrote-back : {n : ℕ} {o' : List ℕ} → Writes F s x at o (done n) o' → Back F s x at n o'
    wrote-back {n} {o'} c =
        let d = was-done c.says in
        let stands : drop at o' ≡ output F s x ++ drop n o =
        ap (drop at) c.leaves ∙ drop_at (take at o) (output F s x ++ drop n o) at (length-take-le at o d.place) in
        let r : F.codec.kind.read o' at ≡ took (F.held.mean s x) n true =
        (keeps F.codec).back (F.held.mean s x) (drop n o) o' at c.good stands
        ∙ ap (λ k. took (F.held.mean s x) k true) (sym d.next) in
        let h = means-taken F.held o' at r in
        record {
          bytes = ap (take (n - at)) stands ∙ take_at (output F s x) (drop n o) (n - at) (omega (arith, d.next));
          reads = r;
          held = h;
          answers = λ l a. (h.0, a.is ∙ opened_in o' at (F.held.read o' at) l (omega (arith, d.room, d.place, left-length c d)) ∙ h.1, h.2);
        }
      where
        left-length : {n : ℕ} {o' : List ℕ} → Writes F s x at o (done n) o' → Done n → at ≤ length o'
        left-length {n} {o'} c d =
            omega
            (arith, ap length c.leaves, length-append (take at o) (output F s x ++ drop n o), length-take-le at o d.place)

-- stores one after the other
pub put-sets : (vs xs : List ℕ) → length vs ≤ length xs → Put xs (sets xs 0 vs) (length vs) vs
put-sets vs xs h =
    let g : 0 + length vs ≤ length xs = omega arith in
    record { is = sets-eq vs xs 0 g ∙ ap (λ k. vs ++ drop k xs) (zero-add (length vs)); long = refl }

-- the tail from a place on has room for what fits behind that place
pub room_at : (o : List ℕ) (at n : ℕ) → at + n ≤ length o → n ≤ length (mid_of at (length o - at) o)
room_at o at n h = omega (arith, mid_len at (length o) o (omega arith))

-- the first field, where its length is no numeral
pub first : {xs zs cs : List ℕ} {m : ℕ} → m ≤ length xs → Put (mid_of 0 (length xs - 0) xs) zs m cs
    → Put xs (put_mid 0 (length xs - 0) xs zs) m ([] ++ cs)
first {xs} {zs} {cs} {m} h g = rw (zero-add m) at (field (start xs) (omega arith) g)

-- what the contract permits is one answer and one buffer
pub one-writing : {M S : Type 0} (F : Format M S) (s : List ℕ) (x : S) (at : ℕ) (o : List ℕ) {v w : Written} {p q : List ℕ}
    → Writes F s x at o v p → Writes F s x at o w q → (v ≡ w) × (p ≡ q)
one-writing F s x at o c d =
    (c.says ∙ sym d.says, c.leaves ∙ ap (λ z. leaving F s x z at o) (c.says ∙ sym d.says) ∙ sym d.leaves)

-- what a function that lays bytes leaves, by the case that it is in
pub laid-short : (bs o : List ℕ) → length o < length bs → o ≡ laid bs o
unfolding laid
laid-short bs o h = simp (lt-leb (length bs) (length o) h)

pub laid-is : {bs o o' : List ℕ} {n : ℕ} → n ≤ length o → Put o o' n bs → o' ≡ laid bs o
unfolding laid
laid-is {bs} {o} {o'} {n} h f =
    let e : length bs ≡ n = f.long in
    let k : length bs ≤ length o = omega arith in
    f.is ∙ rw (le-leb (length bs) (length o) k, e)

-- the same, where the function says what it left
pub put-laid : {bs o o' : List ℕ} {n : ℕ} → length bs ≡ n → n ≤ length o → o' ≡ laid bs o → Put o o' n bs
unfolding laid
put-laid {bs} {o} {o'} {n} l h e =
    let k : length bs ≤ length o = omega arith in
    record { is = e ∙ rw (le-leb (length bs) (length o) k, l); long = l }

-- one field more, by a function that lays bytes and is lent the tail
pub lent : {xs ys bs zs : List ℕ} {n m : ℕ} (cs : List ℕ) → Put xs ys n bs → n + m ≤ length xs → length cs ≡ m → zs ≡ laid cs (mid_of n (length ys - n) ys)
    → Put xs (put_mid n (length ys - n) ys zs) (n + m) (bs ++ cs)
lent {m = m} cs f h l e = field f h (put-laid l (room f m h) e)

-- the first field
pub lent-first : {xs zs : List ℕ} {m : ℕ} (cs : List ℕ) → m ≤ length xs → length cs ≡ m → zs ≡ laid cs (mid_of 0 (length xs - 0) xs)
    → Put xs (put_mid 0 (length xs - 0) xs zs) m cs
lent-first {xs} {m = m} cs h l e = first h (put-laid l (room (start xs) m (omega arith)) e)

-- a field with pieces
module _ {M S : Type 0} (F : Format M S) (s : List ℕ) (x : S) (r : Ready F s x) where
  pub put-laid-of : {o o' : List ℕ} {n : ℕ} → length (output F s x) ≡ n → n ≤ length o → o' ≡ laid_of F s x o → Put o o' n (output F s x)
  unfolding laid laid_of
  put-laid-of {o} {o'} {n} l h e =
      let k : length (output F s x) ≤ length o = omega arith in
      record { is = e ∙ rw (le-leb (length s) most r.short, r.inside, le-leb (length (output F s x)) (length o) k, l); long = l }

  pub lent_of : {xs ys bs zs : List ℕ} {n m : ℕ} → Put xs ys n bs → n + m ≤ length xs → length (output F s x) ≡ m
      → zs ≡ laid_of F s x (mid_of n (length ys - n) ys) → Put xs (put_mid n (length ys - n) ys zs) (n + m) (bs ++ output F s x)
  lent_of {m = m} f h l e = field f h (put-laid-of l (room f m h) e)

  pub lent-of-first : {xs zs : List ℕ} {m : ℕ} → m ≤ length xs → length (output F s x) ≡ m
      → zs ≡ laid_of F s x (mid_of 0 (length xs - 0) xs) → Put xs (put_mid 0 (length xs - 0) xs zs) m (output F s x)
  lent-of-first {xs} {m = m} h l e = first h (put-laid-of l (room (start xs) m (omega arith)) e)

-- a slice copied to the front of a buffer
pub copy-put : {b d z : List ℕ} → z ≡ take (length b) b ++ drop (length b) d → Put d z (length b) b
copy-put {b} {d} {z} e = record { is = e ∙ ap (λ y. y ++ drop (length b) d) (take-length b); long = refl }

pub copy-laid : (b d z : List ℕ) → length b ≤ length d → z ≡ take (length b) b ++ drop (length b) d → z ≡ laid b d
copy-laid b d z h e = laid-is h (copy-put e)

-- bytes laid at a place of a buffer
pub laid-at : (o bs : List ℕ) (m : ℕ) {zs : List ℕ} → m + length bs ≤ length o → zs ≡ laid bs (mid_of m (length o - m) o)
    → put_mid m (length o - m) o zs ≡ take m o ++ (bs ++ drop (m + length bs) o)
laid-at o bs m {zs} h e =
    let t : mid_of m (length o - m) o ≡ drop m o = take_all (length o - m) (drop m o) (omega (arith, length-drop m o)) in
    let d : drop (length o - m) (drop m o) ≡ [] = drop_of_length-le (drop m o) {i = length o - m} (omega (arith, length-drop m o)) in
    let f = put-laid {n = length bs} refl (room_at o m (length bs) h) e in
    let g : zs ≡ bs ++ drop (m + length bs) o = f.is ∙ ap (λ z. bs ++ drop (length bs) z) t ∙ ap (λ z. bs ++ z) (drop-drop (length bs) m o) in
    ap (λ z. take m o ++ (zs ++ z)) d ∙ ap (λ z. take m o ++ z) (append-nil zs ∙ g)

-- what a function that lays a message with pieces leaves, by the case that it is in
module _ {M S : Type 0} (F : Format M S) (s : List ℕ) (x : S) (o : List ℕ) where
  pub of-long : most < length s → o ≡ laid_of F s x o
  unfolding laid_of
  of-long h = simp (lt-leb (length s) most h)

  pub of-outside : length s ≤ most → F.held.inside s x ≡ false → o ≡ laid_of F s x o
  unfolding laid_of
  of-outside h i = simp (le-leb (length s) most h, i)

  pub of-short : Ready F s x → length o < length (output F s x) → o ≡ laid_of F s x o
  unfolding laid_of laid
  of-short r h = simp (le-leb (length s) most r.short, r.inside, lt-leb (length (output F s x)) (length o) h)

  pub of_is : {o' : List ℕ} {n : ℕ} → Ready F s x → n ≤ length o → Put o o' n (output F s x) → o' ≡ laid_of F s x o
  unfolding laid_of
  of_is r h f = laid-is h f ∙ sym (simp (le-leb (length s) most r.short, r.inside))

-- a public writer of a message whose size n is known, once the source and the pieces are tested
module _ {M S : Type 0} (F : Format M S) (s : List ℕ) (x : S) {n : ℕ} (l : length (output F s x) ≡ n) (r : Ready F s x) (at : ℕ) (o : List ℕ)
    (h : at ≤ length o) where
  module _ (k : n ≤ most) where
    pub sized-put : F.codec.kind.Good (F.held.mean s x) → n ≤ length o - at → {zs : List ℕ}
        → Put (mid_of at (length o - at) o) zs n (output F s x) → Writes F s x at o (done (at + n)) (put_mid at (length o - at) o zs)
    sized-put good g f = writes-done F s x at o h r.short r.inside (omega arith) good (omega arith) f

    pub sized-done : F.codec.kind.Good (F.held.mean s x) → n ≤ length o - at → {zs : List ℕ} → zs ≡ laid (output F s x) (mid_of at (length o - at) o)
        → Writes F s x at o (done (at + n)) (put_mid at (length o - at) o zs)
    sized-done good g e = sized-put good g (put-laid l (room_at o at n (omega arith)) e)

-- a message without pieces needs no source
pub no_pieces : {M : Type 0} (C : Codec M) (x : M) → Ready (exactly C) [] x
no_pieces C x = record { short = omega arith; inside = refl }

-- the same bytes under another name
pub laid_same : (a b o : List ℕ) {o' : List ℕ} → a ≡ b → o' ≡ laid a o → o' ≡ laid b o
laid_same a b o e f = f ∙ ap (λ l. laid l o) e
