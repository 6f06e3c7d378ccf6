-- A record written as one fragment (RFC 5531, section 11; docs/SCOPE.md, Records from a stream).
-- Assumes nothing.
use Rattle.std.specs.Prelude.{◌≡◌, List, ◌++◌, cond, ℕ, ◌+◌, ◌-◌, ◌≤◌, leb, length, take, drop}
use Rattle.xdr.specs.Meaning.Bytes.{Bytes, part}
use Rattle.xdr.specs.Meaning.Answer.{most, Written, done, unwritten}
use Rattle.xdr.specs.Meaning.Items.{word}
use Rattle.rpcwire.specs.Meaning.Stream.{complete, stand, fresh, feed_of}
use Rattle.xdr.specs.declared.refusal.Refusal.TheVariants.{TooLong, NoRoom, PastEnd}

-- a last fragment: the header is a word, the length plus 2 ^ 31
unfoldable pub fragment_of : List ℕ → List ℕ
fragment_of m = word.kind.write (length m + 2147483648) ++ m

-- what the writer says at a place of a buffer of some length: 9, 3 for the message without its header, 5
unfoldable pub fragment_said : List ℕ → (at len : ℕ) → Written
fragment_said m at len =
    cond (leb at len)
    (cond (leb (length m) most) (cond (leb (at + 4 + length m) len) (done (at + 4 + length m)) (unwritten (NoRoom (4 + length m)))) (unwritten TooLong))
    (unwritten PastEnd)

-- what the buffer holds afterwards: a refusal leaves it as it was
abbrev pub fragment_left : List ℕ → Written → ℕ → List ℕ → List ℕ
fragment_left m (done n) at o = take at o ++ (fragment_of m ++ drop n o)
fragment_left m (unwritten r) at o = o

-- the contract of `write_fragment`: its answer w to a message, a place and a buffer o, and the buffer o' that it leaves; and the message is bytes
pub record WritesFragment (m : List ℕ) (at : ℕ) (o : List ℕ) (w : Written) (o' : List ℕ) : Type 0 where
  pub says : w ≡ fragment_said m at (length o)
  pub leaves : o' ≡ fragment_left m w at o
  pub bytes : Bytes m

-- what was written from `at` up to n of o' is the fragment; and fed from `at` on to a fresh state that has room, it completes with the
-- message, and uses exactly those bytes
pub record FragmentBack (m : List ℕ) (at n : ℕ) (o' : List ℕ) : Type 0 where
  pub bytes : part o' at n ≡ fragment_of m
  pub completes : (d : List ℕ) → length m ≤ length d → length d ≤ most
      → feed_of (fresh (length d)) (drop at o') d ≡ stand (complete (length m) (fresh (length d)) (n - at)) (m ++ drop (length m) d)
