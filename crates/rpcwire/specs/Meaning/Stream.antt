-- Record marking (RFC 5531, section 11; docs/SCOPE.md, Records from a stream): what one byte of a stream does, and what feeding a run is.
-- Assumes nothing.
use Rattle.std.specs.Prelude.{◌≡◌, Bool, true, false, cond, not, ◌&&◌, ◌||◌, ℕ, zero, suc, ◌+◌, ◌-◌, ◌*◌, ◌^◌, ◌%◌, leb, ltb, eqb, length, set}
use mathlib.Core.List.{List, foldl}
use Rattle.xdr.specs.Meaning.Bytes.{Bytes}
use Rattle.xdr.specs.Meaning.Answer.{most}
use Rattle.rpcwire.specs.declared.assembler.Assembler.{Assembler}
use Rattle.xdr.specs.declared.refusal.Refusal.{Refusal}
use Rattle.xdr.specs.declared.refusal.Refusal.TheVariants.{TooLong, Unfit, Overrun}

-- The states that feeding makes.

-- n header bytes have come, and their value is v; with n 0 it is between two fragments
abbrev pub in_header : (c p n v : ℕ) → Assembler
in_header c p n v = record { capacity = c; placed = p; header_count = n; header_value = v; left = 0; last = false; stopped = false }

-- l bytes of the fragment are left, and z says if it is the last
abbrev pub in_fragment : (c p l : ℕ) (z : Bool) → Assembler
in_fragment c p l z = record { capacity = c; placed = p; header_count = 0; header_value = 0; left = l; last = z; stopped = false }

-- a stopped state keeps its capacity and bytes placed
abbrev pub halted : (c p : ℕ) → Assembler
halted c p = record { capacity = c; placed = p; header_count = 0; header_value = 0; left = 0; last = false; stopped = true }

abbrev pub fresh : ℕ → Assembler
fresh c = in_header c 0 0 0

-- The states that may be fed.

-- header bytes and bytes left are not both there; last has bytes left; stopped has neither bytes left, nor last, nor header bytes
abbrev pub flags_fit : (left count : ℕ) (last stopped : Bool) → Bool
flags_fit left count last stopped =
    (eqb left 0 || eqb count 0)
    && (not last || ltb 0 left)
    && (not stopped || (eqb left 0 && not last && eqb count 0))

-- refusal 6 is given exactly where this is false; n is the record buffer's length
unfoldable pub fits_of : Assembler → ℕ → Bool
fits_of s n =
    eqb s.capacity n
    && leb s.capacity most
    && leb s.placed s.capacity
    && leb s.left (s.capacity - s.placed)
    && leb s.header_count 3
    && ltb s.header_value (256 ^ s.header_count)
    && flags_fit s.left s.header_count s.last s.stopped

-- What a feed answers: "more" with the state and the bytes used; "complete" with the record's length, the state and the bytes used; or a
-- refusal, with the state and the bytes used.
pub data Said : Type 0 where
  more : Assembler → ℕ → Said
  complete : ℕ → Assembler → ℕ → Said
  refused : Refusal → Assembler → ℕ → Said

-- p bytes are placed, l are left of the fragment and u are used: a last fragment with none left completes the record
unfoldable pub settled : (c p l : ℕ) (z : Bool) (u : ℕ) → Said
settled c p zero true u = complete p (fresh c) u
settled c p zero false u = more (in_header c p 0 0) u
settled c p (suc l) z u = more (in_fragment c p (suc l) z) u

-- the fourth header byte has made the word w: its low 31 bits are the length, and bit 31 says last. The sum check stands here
unfoldable pub headed : (c p w u : ℕ) → Said
headed c p w u = cond (leb (w % 2147483648) (c - p)) (settled c p (w % 2147483648) (leb 2147483648 w) u) (refused Overrun (halted c p) u)

-- a header byte makes the value w of it and the n bytes before it
unfoldable pub header_byte : (c p n w u : ℕ) → Said
header_byte c p n w u = cond (ltb n 3) (more (in_header c p (n + 1) w) u) (headed c p w u)

-- where a feed stands: what it answers if the run ends here, and what the record buffer holds
pub record Now : Type 0 where
  pub said : Said
  pub held : List ℕ

abbrev pub stand : Said → List ℕ → Now
stand f d = record { said = f; held = d }

-- one step: l bytes of the fragment are left, the byte b comes, and u bytes are used with it
unfoldable pub step_at : (l : ℕ) → Assembler → List ℕ → (b u : ℕ) → Now
step_at zero s d b u = stand (header_byte s.capacity s.placed s.header_count (s.header_value * 256 + b) u) d
step_at (suc l) s d b u = stand (settled s.capacity (s.placed + 1) l s.last u) (set d s.placed b)

-- only "more" goes on: after any other answer no byte is used
unfoldable pub after : Said → List ℕ → ℕ → Now
after (more s u) d b = step_at s.left s d b (u + 1)
after (complete n s u) d b = stand (complete n s u) d
after (refused r s u) d b = stand (refused r s u) d

unfoldable pub advance : Now → ℕ → Now
advance n b = after n.said n.held b

-- before the first byte: refusal 6 with the state as given, then 7 of a stopped state
unfoldable pub begin : Assembler → ℕ → Said
begin s n = cond (fits_of s n) (cond s.stopped (refused Overrun s 0) (more s 0)) (refused Unfit s 0)

-- feeding a run, byte by byte
unfoldable pub feed_of : Assembler → List ℕ → List ℕ → Now
feed_of s run d = foldl advance (stand (begin s (length d)) d) run

-- the contract of `feed`: what it answers of a state, a run and a buffer d, and what the buffer then holds; and the run is bytes
pub record Feeds (s : Assembler) (run d : List ℕ) (f : Said) (d' : List ℕ) : Type 0 where
  pub is : stand f d' ≡ feed_of s run d
  pub bytes : Bytes run

-- what asking for a capacity answers: a state, or a refusal
pub data Made : Type 0 where
  made : Assembler → Made
  unmade : Refusal → Made

abbrev pub fresh_of : ℕ → Made
fresh_of c = cond (leb c most) (made (fresh c)) (unmade TooLong)
