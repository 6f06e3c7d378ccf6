-- What the proofs of the contracts cite.
-- Assumes nothing.
use Rattle.std.specs.Prelude.{◌≡◌, List, [], ◌++◌, Bool, not, ℕ, ◌+◌, ◌-◌, ◌≤◌, ◌<◌, leb, length, take, drop}
use Rattle.std.proofs.Common.{sym, ap, ◌∙◌, subst, append_assoc, append-nil, arith, length-append, length-drop, drop_of_length-le, take_all, length-take-le, drop_at, drop-drop}
use Rattle.std.proofs.Math.Bool.{true, false}
use borrow.Author.Tests.{le-leb, lt-leb}
use borrow.Rule.Slice.PartMut.{mid_of, put_mid}
use Rattle.std.proofs.Math.Seq.{take-length, take-add, take-append_seam}
use Rattle.std.proofs.lemmas.List.Edits.{sets, sets-eq}
use Rattle.std.specs.Io.KnownBytes.{Appends}
use Rattle.std.specs.Prelude.{None, Some}
use Rattle.std.specs.declared.option.Option.{Option}
use Rattle.io.specs.Digits.{last_digits, IsDigitCount}
use Rattle.stdio.specs.declared.input.Got.{Got}
use Rattle.stdio.specs.declared.input.Got.TheVariants.{Bytes}
use Rattle.stdio.specs.declared.output.Out.{Out}
use Rattle.stdio.specs.Input.{Reads}
use Rattle.stdio.specs.Output.{waiting, gone, flushed, After, said, Said, Numbered, Kept}

pub never : {A : Type 0} → ◌≡◌ {A = Bool} true false → A
never e = absurd (let z : ◌≡◌ {A = ℕ} 0 1 = cc in omega arith)

-- a writer whose bytes are known, after two writings
pub appends_more : (a b c : Option (List ℕ)) (n m : ℕ) (bytes rest : List ℕ) → rest ≡ drop n bytes → Appends a b (take n bytes) → Appends b c (take m rest) → Appends a c (take (n + m) bytes)
appends_more None b c n m bytes rest e p q = tt
appends_more (Some xs) None c n m bytes rest e p q = absurd p
appends_more (Some xs) (Some ys) None n m bytes rest e p q = absurd q
appends_more (Some xs) (Some ys) (Some zs) n m bytes rest e p q =
    q ∙ ap (λ (l : List ℕ). l ++ take m rest) p ∙ append_assoc xs (take n bytes) (take m rest) ∙ ap (λ (l : List ℕ). xs ++ (take n bytes ++ take m l)) e
    ∙ ap (λ (l : List ℕ). xs ++ l) (sym (take-add n m bytes))

-- the first n bytes of what was read, copied to the front of a buffer
pub came : (space buf after : List ℕ) (n : ℕ) → 0 < n → n ≤ length space → n ≤ length buf
    → after ≡ take (length (take (n - 0) space)) (take (n - 0) space) ++ drop (length (take (n - 0) space)) buf → Reads buf (Bytes n) after
came space buf after n p h g e =
    let src : List ℕ = take (n - 0) space in
    let l : length src ≡ n = length-take-le (n - 0) space (omega arith) ∙ omega arith in
    let s : after ≡ src ++ drop n buf = e ∙ (λ i. take-length src i ++ drop (l i) buf) in
    let w : n ≤ length after = rw s (simp (length-append, length-drop) (omega arith)) in
    (p, w, sym (length-take-le n after w), ap (drop n) s ∙ drop_at src (drop n buf) n l)

-- for callers of `read`: the bytes that came are within the buffer
pub within : (g : Got) (n : ℕ) (buf after : List ℕ) → g ≡ Bytes n → Reads buf g after → n ≤ length after
within g n buf after e r = (subst (λ (x : Got). Reads buf x after) e r).1

-- a text that was copied to the front of a buffer's tail
pub laid-tail : (a : ℕ) (xs f ys : List ℕ) → a + length f ≤ length xs → ys ≡ take (length f) f ++ drop (length f) (mid_of a (length xs - a) xs)
    → put_mid a (length xs - a) xs ys ≡ sets xs a f
laid-tail a xs f ys h e =
    let over : length (drop a xs) ≤ length xs - a = omega (arith, length-drop a xs) in
    let none : drop (length xs - a) (drop a xs) ≡ [] = drop_of_length-le (drop a xs) over in
    let tail : mid_of a (length xs - a) xs ≡ drop a xs = take_all (length xs - a) (drop a xs) over in
    ap (λ (z : List ℕ). take a xs ++ (ys ++ z)) none
    ∙ ap (λ (z : List ℕ). take a xs ++ z) (append-nil ys)
    ∙ ap (λ (z : List ℕ). take a xs ++ z) e
    ∙ ap (λ (z : List ℕ). take a xs ++ (z ++ drop (length f) (mid_of a (length xs - a) xs))) (take-length f)
    ∙ ap (λ (z : List ℕ). take a xs ++ (f ++ drop (length f) z)) tail
    ∙ ap (λ (z : List ℕ). take a xs ++ (f ++ z)) (drop-drop (length f) a xs)
    ∙ sym (append_assoc (take a xs) f (drop (a + length f) xs))
    ∙ sym (sets-eq f xs a h)

-- a text that was copied into a part of a buffer
pub laid : (a n : ℕ) (xs f ys : List ℕ) → a + length f ≤ length xs → n ≡ length f → ys ≡ f → put_mid a n xs ys ≡ sets xs a f
laid a n xs f ys h l e =
    rw (l, e) (ap (λ (z : List ℕ). take a xs ++ (f ++ z)) (drop-drop (length f) a xs)
    ∙ sym (append_assoc (take a xs) f (drop (a + length f) xs))
    ∙ sym (sets-eq f xs a h))

-- what waits after text was laid into a buffer
waits : (buf text : List ℕ) (at : ℕ) → at + length text ≤ length buf → take (at + length text) (sets buf at text) ≡ take at buf ++ text
waits buf text at h =
    let front : List ℕ = take at buf ++ text in
    let long : length front ≡ at + length text = simp (length-append) (omega (arith, length-take-le at buf (omega arith))) in
    ap (take (at + length text)) (sets-eq text buf at h) ∙ ap (λ (k : ℕ). take k (front ++ drop (at + length text) buf)) (sym long) ∙ take-append_seam front (drop (at + length text) buf)

-- nothing is lost where text is laid behind what waits
pub kept-room : (known : Option (List ℕ)) (buf text : List ℕ) (at : ℕ) → at + length text ≤ length buf → Kept known known (take at buf) text (take (at + length text) (sets buf at text))
kept-room None buf text at h = tt
kept-room (Some xs) buf text at h = ap (λ (l : List ℕ). xs ++ l) (waits buf text at h) ∙ sym (append_assoc xs (take at buf) text)

-- nor where what waits is written first
pub kept-front : (old new : Option (List ℕ)) (waited buf text : List ℕ) → length text ≤ length buf → Appends old new waited → Kept old new waited text (take (length text) (sets buf 0 text))
kept-front None new waited buf text h p = tt
kept-front (Some xs) None waited buf text h p = absurd p
kept-front (Some xs) (Some ys) waited buf text h p =
    let z : length text ≡ 0 + length text = omega arith in
    ap (λ (k : ℕ). ys ++ take k (sets buf 0 text)) z ∙ ap (λ (l : List ℕ). ys ++ l) (waits buf text 0 (omega arith)) ∙ ap (λ (l : List ℕ). l ++ text) p

-- Each way through a flush.
module _ (at : Out) where
  pub flushed-lost : (b : Bool) → at.lost ≡ true → at ≡ flushed at b
  unfolding flushed
  flushed-lost b e = simp e

  pub flushed-now : (b : Bool) → at.lost ≡ false → ◌≡◌ {A = Out} (record { count = 0; lost = b }) (flushed at b)
  unfolding flushed
  flushed-now b e = simp e

  flushed-gone : (r : Out) → r ≡ flushed at r.lost → at.lost ≡ false → r.lost ≡ true → r ≡ gone
  flushed-gone r g e l = g ∙ sym (flushed-now r.lost e) ∙ (λ i. record { count = 0; lost = l i })

-- Each way through a saying.
module _ (buf : List ℕ) (at : Out) (text : List ℕ) where
  pub said-lost : (b : Bool) → at.lost ≡ true → ◌≡◌ {A = After} (record { out = at; buffer = buf }) (said buf at text b)
  unfolding said
  said-lost b e = simp e

  pub said-room : (b : Bool) → at.lost ≡ false → leb (at.count + length text) (length buf) ≡ true
      → ◌≡◌ {A = After} (record { out = waiting (at.count + length text); buffer = sets buf at.count text }) (said buf at text b)
  unfolding said
  said-room b e f = simp (e, f)

  module _ (e : at.lost ≡ false) (f : leb (at.count + length text) (length buf) ≡ false) where
    pub said-gone : (r : Out) → r.lost ≡ true → r ≡ flushed at r.lost → ◌≡◌ {A = After} (record { out = r; buffer = buf }) (said buf at text r.lost)
    unfolding said
    said-gone r l g = rw (flushed-gone at r g e l) (simp (e, f))

    pub said-front : length text ≤ length buf → ◌≡◌ {A = After} (record { out = waiting (length text); buffer = sets buf 0 text }) (said buf at text false)
    unfolding said
    said-front h = simp (e, f, le-leb (length text) (length buf) h)

    pub said-long : (w : Bool) → length buf < length text → ◌≡◌ {A = After} (record { out = record { count = 0; lost = not w }; buffer = buf }) (said buf at text (not w))
    unfolding said
    said-long true h = simp (e, f, lt-leb (length text) (length buf) h)
    said-long false h = simp (e, f)

pub numbered : (buf : List ℕ) (at : Out) (out : List ℕ) (k n : ℕ) (r : Out) (after : List ℕ) → take k out ≡ last_digits 10 k n → IsDigitCount 10 1 n k → Said buf at (take (k - 0) out) r after → Numbered buf at n r after
numbered buf at out k n r after e f s =
    let z : k - 0 ≡ k = omega arith in
    record { places = k; fewest = f; said = subst (λ (t : List ℕ). Said buf at t r after) (ap (λ (m : ℕ). take m out) z ∙ e) s }

-- Two permitted answers of `say` are one, if a write failed in both or in neither.
pub say-one : (buf : List ℕ) (at : Out) (text : List ℕ) (r s : Out) (a b : List ℕ) → r.lost ≡ s.lost → Said buf at text r a → Said buf at text s b → (r ≡ s) × (a ≡ b)
say-one buf at text r s a b l p q =
    let e : ◌≡◌ {A = After} (record { out = r; buffer = a }) (record { out = s; buffer = b }) = p ∙ ap (said buf at text) l ∙ sym q in
    (ap (λ (x : After). x.out) e, ap (λ (x : After). x.buffer) e)
