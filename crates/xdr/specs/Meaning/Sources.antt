-- The contract of a public writer of a message whose pieces lie in several sources.
-- Assumes nothing.
use Rattle.std.specs.Prelude.{◌≡◌, Bool, true, cond, List, [], ℕ, ◌≤◌, leb, length}
use Rattle.xdr.specs.Meaning.Bytes.{part}
use Rattle.xdr.specs.Meaning.Answer.{Answer, took, most, Written}
use Rattle.xdr.specs.Meaning.Kind.{Codec}
use Rattle.xdr.specs.Meaning.Order.{placing}
use Rattle.xdr.specs.Meaning.Format.{Format, exactly}
use Rattle.xdr.specs.Meaning.Public.{Answers, leaving, InRange}

-- the longer of two lengths
abbrev pub longer : ℕ → ℕ → ℕ
longer a b = cond (leb a b) b a

-- message m is written as from one source, whose length is that of the longest of them; `inside` says whether each piece lies in its own
pub record WritesFrom {M : Type 0} (C : Codec M) (m : M) (longest : ℕ) (inside : Bool) (at : ℕ) (o : List ℕ) (w : Written) (o' : List ℕ) : Type 0 where
  pub says : w ≡ placing longest inside (length (C.kind.write m)) (length o) at
  pub leaves : o' ≡ leaving (exactly C) [] m w at o
  pub good : InRange (exactly C) [] m w

-- message m stands from `at` up to n: a public reader of its kind takes it there, plain, by exactly its bytes
pub record Stands {M S : Type 0} (F : Format M S) (m : M) (at n : ℕ) (o : List ℕ) : Type 0 where
  pub bytes : part o at n ≡ F.codec.kind.write m
  pub answers : {a : Answer S} → length o ≤ most → Answers F o at a → (y : S) × (a ≡ took y n true) × (F.held.mean o y ≡ m)
