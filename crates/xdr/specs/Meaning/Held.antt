-- What the code holds of a message: of bytes a piece, which is a place and a count in the source, with a mark. The link of a codec to what is held.
-- Assumes nothing.
use Rattle.std.specs.Prelude.{◌≡◌, Bool, true, ◌&&◌, List, ◌++◌, ℕ}
use Rattle.xdr.specs.Meaning.Answer.{Answer, took, refused, map_answer, Taken, clean}
use Rattle.xdr.specs.Meaning.Kind.{Codec}
use Rattle.xdr.specs.Meaning.Combinators.{Seen, means, undeclared}
use Rattle.xdr.specs.declared.refusal.Refusal.TheVariants.{Undeclared}

-- `read`: the reading, with places. `mean s x`: the message that x is in the source s. `inside s x`: x's pieces lie inside s. `marks s x`: the
-- marks of x's pieces, in the order of its fields; no other part of `Held` knows of them.
-- To read and then to mean is the codec's reading; and what is read lies inside
pub record Held {M : Type 0} (C : Codec M) (S : Type 0) : Type 0 where
  pub read : List ℕ → ℕ → Answer S
  pub mean : List ℕ → S → M
  pub inside : List ℕ → S → Bool
  pub marks : List ℕ → S → List Bool
  pub agrees : (s : List ℕ) (p : ℕ) → C.kind.read s p ≡ map_answer (mean s) (read s p)
  pub kept : (s : List ℕ) (p : ℕ) → Taken (λ x. inside s x ≡ true) (read s p)

-- one after another
module _ {M S : Type 0} {N : M → Type 0} {T : S → Type 0} {A : Codec M} (B : (a : M) → Codec (N a)) (H : Held A S)
    (G : (s : List ℕ) (x : S) → Held (B (H.mean s x)) (T x)) where
  abbrev pub then_second : (x : S) → Bool → Answer (T x) → Answer ((x : S) × T x)
  then_second x b (took y n b') = took (x, y) n (b && b')
  then_second x b (refused r) = refused r

  abbrev pub then_first : List ℕ → Answer S → Answer ((x : S) × T x)
  then_first s (took x n b) = then_second x b ((G s x).read s n)
  then_first s (refused r) = refused r

  abbrev pub then_mean : List ℕ → (x : S) × T x → (a : M) × N a
  then_mean s z = (H.mean s z.0, (G s z.0).mean s z.1)

  abbrev pub then_inside : List ℕ → (x : S) × T x → Bool
  then_inside s z = H.inside s z.0 && (G s z.0).inside s z.1

  abbrev pub then_marks : List ℕ → (x : S) × T x → List Bool
  then_marks s z = H.marks s z.0 ++ (G s z.0).marks s z.1

-- seen as another
abbrev pub map_seen : {A B : Type 0} → (A → B) → Seen A → Seen B
map_seen f (means a w) = means (f a) w
map_seen f undeclared = undeclared

abbrev pub Meant : {A : Type 0} → (A → Type 0) → Seen A → Type 0
Meant P (means a w) = P a
Meant P undeclared = Unit {0}

abbrev pub seen_as : {T : Type 0} → ℕ → ℕ → Bool → Seen T → Answer T
seen_as p n b (means m w) = took m n (clean w && b)
seen_as p n b undeclared = refused (Undeclared p)

abbrev pub look_at : {S T : Type 0} → (S → Seen T) → ℕ → Answer S → Answer T
look_at holds p (took x n b) = seen_as p n b (holds x)
look_at holds p (refused r) = refused r

-- what is held of another kind, made of what is held of one: it means what the message is seen as
pub record Holds {M S N : Type 0} {C : Codec M} (H : Held C S) (see : M → Seen N) (T : Type 0) : Type 0 where
  pub holds : S → Seen T
  pub mean : List ℕ → T → N
  pub inside : List ℕ → T → Bool
  pub marks : List ℕ → T → List Bool
  pub square : (s : List ℕ) (x : S) → see (H.mean s x) ≡ map_seen (mean s) (holds x)
  pub within : (s : List ℕ) (x : S) → H.inside s x ≡ true → Meant (λ y. inside s y ≡ true) (holds x)
