-- The procedures of a program by their numbers (RFC 5531, section 12): what the arguments of each are, or its results.
-- Assumes nothing.
use Rattle.std.specs.Prelude.{◌≡◌, cond, List, [], ◌∷◌, ℕ, eqb}
use Rattle.std.proofs.Math.Option.{Option, none, some}
use Rattle.xdr.specs.Meaning.Bytes.{Bytes}
use Rattle.xdr.specs.Meaning.Answer.{Answer, map_answer, opened}
use Rattle.xdr.specs.Meaning.Format.{Format}

-- its number, the format of its arguments or results, and the name that a type T of all procedures has for them
pub record Procedure (T : Type 0) : Type 1 where
  pub number : ℕ
  pub Msg : Type 0
  pub Has : Type 0
  pub format : Format Msg Has
  pub under : Has → T

abbrev pub procedure : {T M S : Type 0} → ℕ → Format M S → (S → T) → Procedure T
procedure {T} {M} {S} n F f = record { number = n; Msg = M; Has = S; format = F; under = f }

module _ {T : Type 0} (s : List ℕ) (p : ℕ) where
  -- what is read for a procedure at a place of a source
  abbrev pub read_for : Procedure T → Answer T
  read_for c = map_answer c.under (opened s p (c.format.held.read s p))

  -- what is read for the one that has the number v; nothing if none has it
  abbrev pub read_by : List (Procedure T) → ℕ → Option (Answer T)
  read_by [] v = none
  read_by (c ∷ l) v = cond (eqb v c.number) (some (read_for c)) (read_by l v)

-- the answer of a reader for one procedure
pub record AnswersFor {T : Type 0} (c : Procedure T) (s : List ℕ) (p : ℕ) (a : Option (Answer T)) : Type 0 where
  pub is : a ≡ some (read_for s p c)
  pub bytes : Bytes s

-- the answer of a reader by the number v
pub record AnswersBy {T : Type 0} (l : List (Procedure T)) (v : ℕ) (s : List ℕ) (p : ℕ) (a : Option (Answer T)) : Type 0 where
  pub is : a ≡ read_by s p l v
  pub bytes : Bytes s
