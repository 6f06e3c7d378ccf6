-- What feeding promises, of every state, run and buffer.
-- Assumes nothing.
use Rattle.std.specs.Prelude.{◌≡◌, ◌↔◌, true, false, List, ◌++◌, ℕ, ◌+◌, ◌≤◌, ◌<◌, length, take, drop}
use Rattle.xdr.specs.Meaning.Answer.{most}
use Rattle.rpcwire.specs.Meaning.Stream.{Said, more, complete, refused, Now, stand, fresh, fits_of, feed_of, Feeds}
use Rattle.rpcwire.specs.declared.assembler.Assembler.{Assembler}
use Rattle.xdr.specs.declared.refusal.Refusal.TheVariants.{Unfit, Overrun}
use Rattle.xdr.specs.Meaning.Refusal.{number_of}

-- the refusal's number, 0 where it is none; the state, the bytes used, and how many bytes of the record the buffer then holds
abbrev pub number_said : Said → ℕ
number_said (more s u) = 0
number_said (complete n s u) = 0
number_said (refused r s u) = number_of r

abbrev pub state_said : Said → Assembler
state_said (more s u) = s
state_said (complete n s u) = s
state_said (refused r s u) = s

abbrev pub used_said : Said → ℕ
used_said (more s u) = u
used_said (complete n s u) = u
used_said (refused r s u) = u

abbrev pub placed_said : Said → ℕ
placed_said (more s u) = s.placed
placed_said (complete n s u) = n
placed_said (refused r s u) = s.placed

-- with k bytes used before
abbrev pub shift_said : ℕ → Said → Said
shift_said k (more s u) = more s (k + u)
shift_said k (complete n s u) = complete n s (k + u)
shift_said k (refused r s u) = refused r s (k + u)

abbrev pub shift : ℕ → Now → Now
shift k n = stand (shift_said k n.said) n.held

-- to go on: after "more" the next run is fed to the new state and the buffer, and the counts add up; any other answer stays
abbrev pub resume_said : Said → List ℕ → List ℕ → Now
resume_said (more s u) d run = shift u (feed_of s run d)
resume_said (complete n s u) d run = stand (complete n s u) d
resume_said (refused r s u) d run = stand (refused r s u) d

abbrev pub resume : Now → List ℕ → Now
resume n run = resume_said n.said n.held run

-- from p bytes of a record in d to q bytes in e: what was placed stays, and so does all that lies past the new end
pub record Kept (p : ℕ) (d : List ℕ) (q : ℕ) (e : List ℕ) : Type 0 where
  pub onward : p ≤ q
  pub before : take p e ≡ take p d
  pub beyond : drop q e ≡ drop q d

-- of an answer f and a buffer d' that the contract permits
pub record Promised (s : Assembler) (run d : List ℕ) (f : Said) (d' : List ℕ) : Type 0 where
  -- any other that it permits is the same
  pub one : {g : Said} {e : List ℕ} → Feeds s run d g e → (f ≡ g) × (d' ≡ e)
  -- refusal 6 exactly for states that do not fit; the state is as given, and no byte is used
  pub six_iff : (number_said f ≡ 6) ↔ (fits_of s (length d) ≡ false)
  pub six : fits_of s (length d) ≡ false → (f ≡ refused Unfit s 0) × (d' ≡ d)
  -- a stopped state takes nothing more
  pub stays : fits_of s (length d) ≡ true → s.stopped ≡ true → (f ≡ refused Overrun s 0) × (d' ≡ d)
  -- of a state that fits comes one that fits, so it can be fed again
  pub again : fits_of s (length d) ≡ true → fits_of (state_said f) (length d') ≡ true
  -- feeding this run and then another is feeding both at once; so no byte past a record's end is used
  pub joins : (next : List ℕ) → feed_of s (run ++ next) d ≡ resume (stand f d') next
  -- a state that fits and is not stopped uses a byte of every run that has one
  pub moves : fits_of s (length d) ≡ true → s.stopped ≡ false → 0 < length run → 0 < used_said f
  -- no more is used than there is, and the bytes used alone make the answer
  pub within : used_said f ≤ length run
  pub alone : feed_of s (take (used_said f) run) d ≡ stand f d'
  -- the buffer changes only where the record grows, and keeps its length
  pub kept : Kept s.placed d (placed_said f) d'
  pub long : length d' ≡ length d

pub record Promise : Type 0 where
  -- feeding starts from a state that fits
  pub starts : (c : ℕ) → c ≤ most → fits_of (fresh c) c ≡ true
  pub feeds : {s : Assembler} {run d : List ℕ} {f : Said} {d' : List ℕ} → Feeds s run d f d' → Promised s run d f d'
