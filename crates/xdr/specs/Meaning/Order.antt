-- The order in which writers refuse, by lengths alone.
-- Assumes nothing.
use Rattle.std.specs.Prelude.{Bool, cond, ℕ, ◌+◌, leb}
use Rattle.xdr.specs.Meaning.Answer.{most, Written, done, unwritten}
use Rattle.xdr.specs.declared.refusal.Refusal.TheVariants.{TooLong, Outside, NoRoom, PastEnd, LongPath}

-- a message without pieces: where `size` bytes from `at` on end, in a buffer of `len`; 9, then 5
unfoldable pub roomed : ℕ → ℕ → ℕ → Written
roomed len at size = cond (leb at len) (cond (leb (at + size) len) (done (at + size)) (unwritten (NoRoom size))) (unwritten PastEnd)

-- any message, by the length of the source, whether its pieces lie inside, the size of the encoding, the length of the buffer, and the place:
-- 9, 3 for the source, 4, 3 for the encoding, 5
unfoldable pub placing : ℕ → Bool → ℕ → ℕ → ℕ → Written
placing source inside size room at =
    cond (leb at room)
    (cond (leb source most)
    (cond inside (cond (leb size most) (cond (leb (at + size) room) (done (at + size)) (unwritten (NoRoom size))) (unwritten TooLong)) (unwritten Outside))
    (unwritten TooLong))
    (unwritten PastEnd)

-- the same of a message under a bound: `within` says that it keeps to it; 10 stands right after 4
unfoldable pub bounding : ℕ → Bool → Bool → ℕ → ℕ → ℕ → Written
bounding source inside within size room at =
    cond (leb at room)
    (cond (leb source most)
    (cond inside
    (cond within (cond (leb size most) (cond (leb (at + size) room) (done (at + size)) (unwritten (NoRoom size))) (unwritten TooLong)) (unwritten (LongPath 0)))
    (unwritten Outside))
    (unwritten TooLong))
    (unwritten PastEnd)
