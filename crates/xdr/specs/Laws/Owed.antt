-- What is owed of every kind, for any format: demands 2 and 3 of what is read and of the answers of a public reader, what appending
-- bytes changes, and that whatever a public writer wrote reads back as itself. The writer's contract says that what it wrote is in range, so this holds of every value of the
-- code's type.
-- Assumes nothing.
use Rattle.std.specs.Prelude.{◌≡◌, List, ℕ}
use Rattle.xdr.specs.Meaning.Answer.{Written, done}
use Rattle.xdr.specs.Meaning.Promise.{Promise}
use Rattle.xdr.specs.Meaning.Format.{Format}
use Rattle.xdr.specs.Meaning.Public.{Writes, Back, Kept}
use Rattle.xdr.specs.Laws.Promise.{keeps}
use Rattle.xdr.specs.Laws.Public.{kept}
use Rattle.xdr.specs.Laws.Write.{wrote-back, one-writing}

pub record Owed {M S : Type 0} (F : Format M S) : Type 0 where
  pub promise : Promise F.codec.kind
  pub answers : Kept F
  pub back : (s : List ℕ) (x : S) (at : ℕ) (o : List ℕ) {n : ℕ} {o' : List ℕ} → Writes F s x at o (done n) o' → Back F s x at n o'
  -- what the writer's contract permits is one answer and one buffer
  pub one : (s : List ℕ) (x : S) (at : ℕ) (o : List ℕ) {v w : Written} {p q : List ℕ} → Writes F s x at o v p → Writes F s x at o w q
      → (v ≡ w) × (p ≡ q)

pub owed : {M S : Type 0} (F : Format M S) → Owed F
owed F = record { promise = keeps F.codec; answers = kept F; back = wrote-back F; one = one-writing F }
