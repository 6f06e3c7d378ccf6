-- Kinds of a fixed size: what is taken is that many bytes of the source, and what is written is that many.
-- Assumes nothing.
use Rattle.std.specs.Prelude.{◌≡◌, refl, Bool, List, [], ℕ, ◌+◌, ◌-◌, ◌≤◌, length}
use Rattle.std.proofs.Common.{ap₂, subst, ◌∙◌, arith, length-append}
use Rattle.xdr.specs.Meaning.Answer.{Answer, took, refused}
use Rattle.xdr.specs.Meaning.Kind.{Codec}
use Rattle.xdr.specs.Meaning.Sizes.{OfSize}
use Rattle.xdr.specs.Meaning.Combinators.{Seen, means, undeclared, second, first, View, meant, look}
use Rattle.xdr.specs.Meaning.Codecs.{◌⨾◌, view, seen, exact_view}
use Rattle.xdr.specs.Meaning.Items.{word, hyper, word_pair, hyper_pair, flag, int, long}
use Rattle.xdr.specs.Meaning.Combinators.{Exact}
use Rattle.xdr.specs.Laws.Answers.{word-within, number-within}
use Rattle.xdr.specs.Laws.Padding.{word-length, hyper-length}

-- from p up to n are k bytes of s
pub record Spans (s : List ℕ) (p k n : ℕ) : Type 0 where
  pub room : k ≤ length s - p
  pub next : n ≡ p + k

pub spans : {s : List ℕ} {p q n i j : ℕ} → Spans s p i q → Spans s q j n → Spans s p (i + j) n
spans h k = record { room = omega arith; next = omega arith }

pub record Fixed {M : Type 0} (k : ℕ) (C : Codec M) : Type 0 where
  pub reads : (s : List ℕ) (p : ℕ) {m : M} {n : ℕ} {b : Bool} → C.kind.read s p ≡ took m n b → Spans s p k n
  pub writes : (m : M) → length (C.kind.write m) ≡ k

pub word-fixed : Fixed 4 word
word-fixed = record { reads = λ s p e. let w = word-within s p e in record { room = w.0; next = w.2 }; writes = word-length }

hyper-within : (s : List ℕ) (p : ℕ) {m : ℕ} {n : ℕ} {b : Bool} → hyper.kind.read s p ≡ took m n b → Spans s p 8 n
unfolding hyper
hyper-within s p e = let w = number-within 8 s p e in record { room = w.0; next = w.2 }

pub hyper-fixed : Fixed 8 hyper
hyper-fixed = record { reads = hyper-within; writes = hyper-length }

-- one after another
module _ {M N : Type 0} {i j : ℕ} {A : Codec M} {B : Codec N} (F : Fixed i A) (G : Fixed j B) where
  pair-second : (s : List ℕ) (p q : ℕ) (a : M) (b : Bool) → Spans s p i q → (y : Answer N) → B.kind.read s q ≡ y
      → {m : M × N} {n : ℕ} {d : Bool} → second A.kind (λ a. B.kind) a b y ≡ took m n d → Spans s p (i + j) n
  pair-second s p q a b h (took c r e) f {m} {n} {d} g =
      let z : r ≡ n = cc in
      subst (Spans s p (i + j)) z (spans h (G.reads s q f))
  pair-second s p q a b h (refused r) f {m} {n} {d} g = let z : ◌≡◌ {A = ℕ} 0 1 = cc in absurd (omega arith)

  pair-first : (s : List ℕ) (p : ℕ) (x : Answer M) → A.kind.read s p ≡ x
      → {m : M × N} {n : ℕ} {d : Bool} → first A.kind (λ a. B.kind) s x ≡ took m n d → Spans s p (i + j) n
  pair-first s p (took a q b) f g = pair-second s p q a b (F.reads s p f) (B.kind.read s q) refl g
  pair-first s p (refused r) f g = let z : ◌≡◌ {A = ℕ} 0 1 = cc in absurd (omega arith)

  pub pair-fixed : Fixed (i + j) (A ⨾ B)
  pair-fixed =
      record {
        reads = λ s p e. pair-first s p (A.kind.read s p) refl e;
        writes = λ m. length-append (A.kind.write m.0) (B.kind.write m.1) ∙ ap₂ (λ x y. x + y) (F.writes m.0) (G.writes m.1);
      }

pub word-pair-fixed : Fixed 8 word_pair
unfolding word_pair
word-pair-fixed = pair-fixed word-fixed word-fixed

pub hyper-pair-fixed : Fixed 16 hyper_pair
unfolding hyper_pair
hyper-pair-fixed = pair-fixed hyper-fixed hyper-fixed

-- seen as another
module _ {M N : Type 0} {k : ℕ} {C : Codec M} (F : Fixed k C) (W : View M C.kind.Good N) where
  view-meant : (s : List ℕ) (p q : ℕ) (b : Bool) → Spans s p k q → (y : Seen N) {m : N} {n : ℕ} {d : Bool}
      → meant C.kind W p q b y ≡ took m n d → Spans s p k n
  view-meant s p q b h (means x w) {m} {n} {d} g = let z : q ≡ n = cc in subst (Spans s p k) z h
  view-meant s p q b h undeclared {m} {n} {d} g = let z : ◌≡◌ {A = ℕ} 0 1 = cc in absurd (omega arith)

  view-looked : (s : List ℕ) (p : ℕ) (x : Answer M) → C.kind.read s p ≡ x → {m : N} {n : ℕ} {d : Bool}
      → look C.kind W p x ≡ took m n d → Spans s p k n
  view-looked s p (took x q b) f g = view-meant s p q b (F.reads s p f) (W.see x) g
  view-looked s p (refused r) f g = let z : ◌≡◌ {A = ℕ} 0 1 = cc in absurd (omega arith)

  pub view-fixed : Fixed k (view C W)
  view-fixed = record { reads = λ s p e. view-looked s p (C.kind.read s p) refl e; writes = λ m. F.writes (W.to m) }

module _ {M N : Type 0} {k : ℕ} {C : Codec M} (F : Fixed k C) (see : M → Seen N) (to : N → M) (exact : (x : M) → Exact C.kind.Good to x (see x))
    (see_to : (m : N) → see (to m) ≡ means m []) where
  pub seen-fixed : Fixed k (seen C see to exact see_to)
  seen-fixed = view-fixed F (exact_view C see to exact see_to)

-- flags and signed numbers
pub flag-fixed : Fixed 4 flag
unfolding flag
flag-fixed = seen-fixed word-fixed _ _ _ _

pub int-fixed : Fixed 4 int
unfolding word int
int-fixed = view-fixed word-fixed _

pub long-fixed : Fixed 8 long
unfolding hyper long
long-fixed = view-fixed hyper-fixed _

-- such a kind is of that size
pub of_size : {M : Type 0} {k : ℕ} {C : Codec M} → Fixed k C → OfSize k C
of_size F = record { reads = λ s p e. (F.reads s p e).next; writes = F.writes }
