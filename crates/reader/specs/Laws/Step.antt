-- Steps in order are one reading of what stands in order; a step stays in its message; and what it says, it says of one answer and one reader alone.
-- Assumes nothing.
use Rattle.std.specs.Prelude.{◌≡◌, Bool, List, ℕ, ◌≤◌, leb, length}
use Rattle.std.proofs.Math.Path.{refl}
use Rattle.std.proofs.Common.{sym, ap, subst, ◌∙◌, arith}
use Rattle.std.proofs.Math.Bool.{true, false, cond}
use Rattle.std.specs.Borrow.{Bor}
use Rattle.xdr.specs.Meaning.Answer.{Answer, took, refused, opened, most}
use Rattle.xdr.specs.Meaning.Held.{then_first, then_second}
use Rattle.xdr.specs.Meaning.Format.{Format, ◌⨟◌}
use Rattle.xdr.specs.Meaning.Public.{Answers, Took}
use Rattle.xdr.specs.Laws.One.{Told}
use Rattle.xdr.specs.Laws.Public.{opened_in, kept}
use Rattle.reader.specs.Meaning.Step.{onward, Stepped, joined}
use Rattle.reader.specs.declared.Reader.{Reader}
use Rattle.xdr.specs.declared.refusal.Refusal.{Refusal}
use Rattle.xdr.specs.declared.refusal.Refusal.TheVariants.{TooLong, PastEnd}

module _ {M N S T : Type 0} (F : Format M S) (G : Format N T) (s : List ℕ) (p : ℕ) where
  abbrev first : Answer S → Answer (S × T)
  first = then_first (λ a. G.codec) F.held (λ t x. G.held) s

  abbrev second : S → Bool → Answer T → Answer (S × T)
  second = then_second (λ a. G.codec) F.held (λ t x. G.held)

  is-second : (x : S) (n : ℕ) (b : Bool) (z : Answer T) → joined (took x n b) z ≡ second x b z
  is-second x n b (took y m c) = refl
  is-second x n b (refused r) = refl

  -- the tests of a public reader come first, whatever is read after them
  first-opened : (y : Answer S) → first (opened s p y) ≡ opened s p (first y)
  unfolding opened
  first-opened y = by (leb (length s) most) (leb p (length s))
    where
      by : (t u : Bool) → first (cond t (cond u y (refused PastEnd)) (refused TooLong)) ≡ cond t (cond u (first y) (refused PastEnd)) (refused TooLong)
      by true true = refl
      by true false = refl
      by false u = refl

  -- the second reading starts where the first ended; after a refusal its answer is not asked for
  pub in_order : (a : Answer S) (z : Answer T) → Answers F s p a → Answers G s (onward a p) z → Answers (F ⨟ G) s p (joined a z)
  in_order (took x n b) z c d =
      let t : Took F = record { source = s; place = p; value = x; next = n; plain = b; answers = c } in
      let g = ((kept F).accepted_iff s p c).0 (x, n, b, refl) in
      let k : z ≡ G.held.read s n = d.is ∙ opened_in s n (G.held.read s n) g.0 ((kept F).within t).1 in
      record { is = is-second x n b z ∙ ap (second x b) k ∙ ap first c.is ∙ first-opened (F.held.read s p); bytes = c.bytes }
  in_order (refused r) z c d = record { is = ap first c.is ∙ first-opened (F.held.read s p); bytes = c.bytes }

-- a refusal of the first is the refusal of both
pub lost_first : {M N S T : Type 0} (F : Format M S) (G : Format N T) (s : List ℕ) (p : ℕ) {q : Refusal} → Answers F s p (refused q) → Answers (F ⨟ G) s p (refused q)
lost_first F G s p c = record { is = ap (first F G s p) c.is ∙ first-opened F G s p (F.held.read s p); bytes = c.bytes }

-- the same of a step and of what is read from the reader that it hands back
pub step_then : {M N S T : Type 0} (F : Format M S) (G : Format N T) {r r' : Reader} {a : Answer S} {z : Answer T} → Stepped F r a r' → Answers G r'.src.now r'.at z
    → Answers (F ⨟ G) r.src.now r.at (joined a z)
step_then F G {r} {r'} {a} {z} e d = in_order F G r.src.now r.at a z e.answers (subst (λ (x : Reader). Answers G x.src.now x.at z) (λ i. record { src = e.same i; at = e.next i }) d)

module _ {M S : Type 0} (F : Format M S) (r r' : Reader) where
  -- a reader whose place is in its message stays in it, and never goes back
  pub step-within : (a : Answer S) → Stepped F r a r' → r.at ≤ length r.src.now → (r.at ≤ r'.at) × (r'.at ≤ length r'.src.now)
  step-within (took x n b) e h =
      let t : Took F = record { source = r.src.now; place = r.at; value = x; next = n; plain = b; answers = e.answers } in
      let g = (kept F).within t in
      let l : length r'.src.now ≡ length r.src.now = ap (λ (z : Bor (List ℕ)). length z.now) e.same in
      (omega (arith, g.0, e.next), omega (arith, g.1, e.next, l))
  step-within (refused q) e h =
      let l : length r'.src.now ≡ length r.src.now = ap (λ (z : Bor (List ℕ)). length z.now) e.same in
      (omega (arith, e.next), omega (arith, h, e.next, l))

  -- two steps from one reader are one
  pub step-one : {r'' : Reader} {a b : Answer S} → Stepped F r a r' → Stepped F r b r'' → (a ≡ b) × (r' ≡ r'')
  step-one {r''} {a} {b} e f =
      let g : a ≡ b = (kept F).one r.src.now r.at e.answers f.answers in
      let at : r'.at ≡ r''.at = e.next ∙ ap (λ (z : Answer S). onward z r.at) g ∙ sym f.next in
      (g, λ i. record { src = (e.same ∙ sym f.same) i; at = at i })

-- the same in the code's own types
pub step-told : {M S R : Type 0} {view : R → Answer S} → Told view → (F : Format M S) {r r' r'' : Reader} (x y : R) → Stepped F r (view x) r' → Stepped F r (view y) r''
    → (x ≡ y) × (r' ≡ r'')
step-told told F {r} {r'} x y e f = let o = step-one F r r' e f in (told x y o.0, o.1)
