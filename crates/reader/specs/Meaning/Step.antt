-- A step: the plain reader's answer at the reader's place, and the reader handed back.
-- Assumes nothing.
use Rattle.std.specs.Prelude.{◌≡◌, ◌&&◌, ℕ}
use Rattle.xdr.specs.Meaning.Answer.{Answer, took, refused}
use Rattle.xdr.specs.Meaning.Format.{Format}
use Rattle.xdr.specs.Meaning.Public.{Answers}
use Rattle.reader.specs.declared.Reader.{Reader}

-- where a reader stands after an answer: at the next place, or where it was
abbrev pub onward : {S : Type 0} → Answer S → ℕ → ℕ
onward (took x n b) at = n
onward (refused r) at = at

-- a step from the reader r: its answer a, and the reader r' that it hands back
pub record Stepped {M S : Type 0} (F : Format M S) (r : Reader) (a : Answer S) (r' : Reader) : Type 0 where
  -- what the plain function says of the message and the place
  pub answers : Answers F r.src.now r.at a
  -- the same message
  pub same : r'.src ≡ r.src
  pub next : r'.at ≡ onward a r.at

-- two steps in order: the first refusal stands for both
abbrev pub joined : {S T : Type 0} → Answer S → Answer T → Answer (S × T)
joined (took x n b) (took y m c) = took (x, y) m (b && c)
joined (took x n b) (refused r) = refused r
joined (refused r) z = refused r
