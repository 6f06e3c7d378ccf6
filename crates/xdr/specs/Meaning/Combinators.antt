-- The ways to make a kind: bytes as they stand, one kind after another, a kind seen as another, a kind as one run of bytes, and a kind that is
-- one item.
-- Assumes nothing.
use Rattle.std.specs.Prelude.{◌≡◌, ◌⊎◌, Bool, true, cond, ◌&&◌, List, [], ◌∷◌, ◌++◌, ℕ, ◌+◌, ◌-◌, ◌<◌, leb, eqb, length, take, drop}
use Rattle.xdr.specs.Meaning.Bytes.{Bytes, Stands}
use Rattle.xdr.specs.Meaning.Refusal.{moved_to, cut_short, Cut}
use Rattle.xdr.specs.Meaning.Answer.{Answer, took, refused, Way, Loose, here, shifted, clean}
use Rattle.xdr.specs.Meaning.Kind.{Kind}
use Rattle.xdr.specs.declared.refusal.Refusal.{Refusal}
use Rattle.xdr.specs.declared.refusal.Refusal.TheVariants.{Undeclared}

-- n bytes
pub record Raw (n : ℕ) (l : List ℕ) : Type 0 where
  pub size : length l ≡ n
  pub bytes : Bytes l

-- n bytes, as they stand: refusal 1 where there are fewer
abbrev pub block_kind : ℕ → Kind (List ℕ)
block_kind n =
    record {
      Good = Raw n;
      Form = λ l w e. (w ≡ []) × (e ≡ l) × Raw n l;
      Fault = Cut n;
      read = λ s p. cond (leb n (length s - p)) (took (take n (drop p s)) (p + n) true) (refused (cut_short n s p));
      write = λ l. l;
    }

-- no bytes
abbrev pub void_kind : Kind (Unit {0})
void_kind =
    record {
      Good = λ u. Unit {0};
      Form = λ u w e. (w ≡ []) × (e ≡ []);
      Fault = λ s p r. ⊥;
      read = λ s p. took tt p true;
      write = λ u. [];
    }

-- no message: the start of kinds by a bound
abbrev pub none_kind : {M : Type 0} → Kind M
none_kind =
    record {
      Good = λ m. ⊥;
      Form = λ m w e. ⊥;
      Fault = λ s p r. r ≡ Undeclared p;
      read = λ s p. refused (Undeclared p);
      write = λ m. [];
    }

-- one after another: the second may depend on the first's message
module _ {M : Type 0} {N : M → Type 0} (A : Kind M) (B : (a : M) → Kind (N a)) where
  abbrev pub second : (a : M) → Bool → Answer (N a) → Answer ((a : M) × N a)
  second a b (took c n b') = took (a, c) n (b && b')
  second a b (refused r) = refused r

  abbrev pub first : List ℕ → Answer M → Answer ((a : M) × N a)
  first s (took a n b) = second a b ((B a).read s n)
  first s (refused r) = refused r

  -- a form of the pair is a form of its first, and behind it one of its second; what is loose in the second stands behind the first
  pub record Chained (m : (a : M) × N a) (w : List Loose) (e : List ℕ) : Type 0 where
    pub e₁ : List ℕ
    pub e₂ : List ℕ
    pub w₁ : List Loose
    pub w₂ : List Loose
    pub form₁ : A.Form m.0 w₁ e₁
    pub form₂ : (B m.0).Form m.1 w₂ e₂
    pub bytes : e ≡ e₁ ++ e₂
    pub loose : w ≡ w₁ ++ shifted (length e₁) w₂

  -- a fault of the pair is one of its first, or stands behind a form of its first, in its second
  pub record Behind (s : List ℕ) (p : ℕ) (r : Refusal) : Type 0 where
    pub message : M
    pub loose : List Loose
    pub used : List ℕ
    pub left : List ℕ
    pub form : A.Form message loose used
    pub stands : Stands used left s p
    pub fault : (B message).Fault s (p + length used) r

  abbrev pub chain_kind : Kind ((a : M) × N a)
  chain_kind =
      record {
        Good = λ m. A.Good m.0 × (B m.0).Good m.1;
        Form = Chained;
        Fault = λ s p r. A.Fault s p r ⊎ Behind s p r;
        read = λ s p. first s (A.read s p);
        write = λ m. A.write m.0 ++ (B m.0).write m.1;
      }

-- what a message is seen as: a message of another type, with the ways in which that is loose; or nothing, which is refusal 2
pub data Seen (N : Type 0) : Type 0 where
  means : N → List Way → Seen N
  undeclared : Seen N

-- what is meant is in range; and where nothing is loose, it is written as what was seen
abbrev pub Faithful : {M N : Type 0} → (N → Type 0) → (N → M) → M → Seen N → Type 0
Faithful Good to x (means m w) = Good m × (w ≡ [] → to m ≡ x)
Faithful Good to x undeclared = Unit {0}

module _ {M N : Type 0} (Good : M → Type 0) (to : N → M) where
  -- what is seen with nothing loose is written as what was seen; what is seen with something loose is a default, which is in range
  abbrev pub Exact : M → Seen N → Type 0
  Exact x (means m []) = to m ≡ x
  Exact x (means m (l ∷ w)) = Good (to m)
  Exact x undeclared = Unit {0}

-- the first of a list of values that has a number
abbrev pub among : {A : Type 0} → (A → ℕ) → List A → ℕ → Seen A
among number [] v = undeclared
among number (a ∷ l) v = cond (eqb v (number a)) (means a []) (among number l v)

-- messages of M, those in range of which are given, seen as messages of N
pub record View (M : Type 0) (From : M → Type 0) (N : Type 0) : Type 1 where
  pub Good : N → Type 0
  pub see : M → Seen N
  pub to : N → M
  pub faithful : (x : M) → From x → Faithful Good to x (see x)
  pub to_good : (m : N) → Good m → From (to m)
  pub see_to : (m : N) → Good m → see (to m) ≡ means m []

module _ {M N : Type 0} (K : Kind M) (W : View M K.Good N) where
  abbrev pub meant : ℕ → ℕ → Bool → Seen N → Answer N
  meant p n b (means m w) = took m n (clean w && b)
  meant p n b undeclared = refused (Undeclared p)

  abbrev pub look : ℕ → Answer M → Answer N
  look p (took x n b) = meant p n b (W.see x)
  look p (refused r) = refused r

  -- a form of m is a form of a message that is seen as m
  pub record Viewed (m : N) (w : List Loose) (e : List ℕ) : Type 0 where
    pub of : M
    pub w₁ : List Loose
    pub w₂ : List Way
    pub form : K.Form of w₁ e
    pub sees : W.see of ≡ means m w₂
    pub loose : w ≡ here w₂ ++ w₁

  -- a form stands there, and it is seen as nothing
  pub record Unseen (s : List ℕ) (p : ℕ) (r : Refusal) : Type 0 where
    pub of : M
    pub loose : List Loose
    pub used : List ℕ
    pub left : List ℕ
    pub form : K.Form of loose used
    pub stands : Stands used left s p
    pub sees : W.see of ≡ undeclared
    pub is : r ≡ Undeclared p

  abbrev pub view_kind : Kind N
  view_kind =
      record {
        Good = W.Good;
        Form = Viewed;
        Fault = λ s p r. K.Fault s p r ⊎ Unseen s p r;
        read = λ s p. look p (K.read s p);
        write = λ m. K.write (W.to m);
      }

-- a kind that takes n bytes, as one run of them: where there are fewer, the rest of all n is wanting
abbrev pub run_kind : {M : Type 0} → ℕ → Kind M → Kind M
run_kind n K =
    record {
      Good = K.Good;
      Form = K.Form;
      Fault = Cut n;
      read = λ s p. cond (leb n (length s - p)) (K.read s p) (refused (cut_short n s p));
      write = K.write;
    }

-- it takes exactly n bytes, and is refused only where there are fewer
pub record Takes {M : Type 0} (n : ℕ) (K : Kind M) : Type 0 where
  pub long : (m : M) (w : List Loose) (e : List ℕ) → K.Form m w e → length e ≡ n
  pub short : (s : List ℕ) (p : ℕ) (r : Refusal) → K.Fault s p r → length s - p < n

-- one item: every refusal inside is that of the whole, at its first byte
abbrev pub whole : {M : Type 0} → ℕ → Answer M → Answer M
whole p (took m n b) = took m n b
whole p (refused r) = refused (moved_to p r)

abbrev pub item_kind : {M : Type 0} → Kind M → Kind M
item_kind K =
    record {
      Good = K.Good;
      Form = K.Form;
      Fault = λ s p r. (q : Refusal) × K.Fault s p q × (r ≡ moved_to p q);
      read = λ s p. whole p (K.read s p);
      write = K.write;
    }
