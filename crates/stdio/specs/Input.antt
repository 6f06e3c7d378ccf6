-- What is known of a reading. No contract can say what the bytes are that come from outside.
-- Assumes nothing.
use Rattle.std.specs.Prelude.{◌≡◌, List, ℕ, ◌≤◌, ◌<◌, length, take, drop, []}
use Rattle.std.specs.declared.option.Option.{Option}
use Rattle.std.specs.Io.KnownBytes.{Consumes, IsAtEnd}
use Rattle.stdio.specs.declared.input.Got.{Got}
use Rattle.stdio.specs.declared.input.Got.TheVariants.{End, Failed, Bytes}

-- the contract of `read`: the buffer is as it was, but for the bytes that came. (The third fact follows from the second; with it a caller
-- that lends `&buf[0..n]` needs no proof.)
abbrev pub Reads : List ℕ → Got → List ℕ → Type 0
Reads buf End after = after ≡ buf
Reads buf Failed after = after ≡ buf
Reads buf (Bytes n) after = (0 < n) × (n ≤ length after) × (n ≡ length (take n after)) × (drop n after ≡ drop n buf)

-- what a reading took of a reader whose bytes are known, with so much room
abbrev pub Takes : Option (List ℕ) → Option (List ℕ) → ℕ → Got → List ℕ → Type 0
Takes old new room End after = Consumes old new [] × (0 < room → IsAtEnd new)
Takes old new room Failed after = Consumes old new []
Takes old new room (Bytes n) after = Consumes old new (take n after)
