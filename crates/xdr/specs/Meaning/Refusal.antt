-- Refusals: the code's own type, by the numbers of docs/SCOPE.md. What passes a refusal up does not look inside it.
-- Assumes nothing.
use Rattle.std.specs.Prelude.{◌≡◌, List, ℕ, ◌-◌, ◌<◌, length}
use Rattle.xdr.specs.declared.refusal.Refusal.{Refusal}
use Rattle.xdr.specs.declared.refusal.Refusal.TheVariants.{Ended, Undeclared, TooLong, Outside, NoRoom, Unfit, Overrun, NotCall, PastEnd, LongPath}

abbrev pub number_of : Refusal → ℕ
number_of (Ended p w) = 1
number_of (Undeclared p) = 2
number_of TooLong = 3
number_of Outside = 4
number_of (NoRoom n) = 5
number_of Unfit = 6
number_of Overrun = 7
number_of NotCall = 8
number_of PastEnd = 9
number_of (LongPath p) = 10

-- only 1, 2 and 10 have a place
abbrev pub place_of : Refusal → ℕ
place_of (Ended p w) = p
place_of (Undeclared p) = p
place_of TooLong = 0
place_of Outside = 0
place_of (NoRoom n) = 0
place_of Unfit = 0
place_of Overrun = 0
place_of NotCall = 0
place_of PastEnd = 0
place_of (LongPath p) = p

-- and only 1 wants bytes
abbrev pub wanting_of : Refusal → ℕ
wanting_of (Ended p w) = w
wanting_of (Undeclared p) = 0
wanting_of TooLong = 0
wanting_of Outside = 0
wanting_of (NoRoom n) = 0
wanting_of Unfit = 0
wanting_of Overrun = 0
wanting_of NotCall = 0
wanting_of PastEnd = 0
wanting_of (LongPath p) = 0

-- and only 5 says how many bytes a writing needs
abbrev pub needed_of : Refusal → ℕ
needed_of (Ended p w) = 0
needed_of (Undeclared p) = 0
needed_of TooLong = 0
needed_of Outside = 0
needed_of (NoRoom n) = n
needed_of Unfit = 0
needed_of Overrun = 0
needed_of NotCall = 0
needed_of PastEnd = 0
needed_of (LongPath p) = 0

-- the same refusal, at another place
abbrev pub moved_to : ℕ → Refusal → Refusal
moved_to p (Ended q w) = Ended p w
moved_to p (Undeclared q) = Undeclared p
moved_to p TooLong = TooLong
moved_to p Outside = Outside
moved_to p (NoRoom n) = NoRoom n
moved_to p Unfit = Unfit
moved_to p Overrun = Overrun
moved_to p NotCall = NotCall
moved_to p PastEnd = PastEnd
moved_to p (LongPath q) = LongPath p

-- the refusals that reading a kind can give; 3 and 9 come before it is read, and the others are not a reader's
abbrev pub OfReading : Refusal → Type 0
OfReading (Ended p w) = Unit {0}
OfReading (Undeclared p) = Unit {0}
OfReading TooLong = ⊥
OfReading Outside = ⊥
OfReading (NoRoom n) = ⊥
OfReading Unfit = ⊥
OfReading Overrun = ⊥
OfReading NotCall = ⊥
OfReading PastEnd = ⊥
OfReading (LongPath p) = Unit {0}

-- if it is a 1, it wants more than k bytes
abbrev pub TooFew : ℕ → Refusal → Type 0
TooFew k r = (q w : ℕ) → r ≡ Ended q w → k < w

-- the same refusal after k bytes were appended: 1 wants that many less
abbrev pub less_by : ℕ → Refusal → Refusal
less_by k (Ended q w) = Ended q (w - k)
less_by k (Undeclared q) = Undeclared q
less_by k TooLong = TooLong
less_by k Outside = Outside
less_by k (NoRoom n) = NoRoom n
less_by k Unfit = Unfit
less_by k Overrun = Overrun
less_by k NotCall = NotCall
less_by k PastEnd = PastEnd
less_by k (LongPath q) = LongPath q

-- refusal 1 of k bytes that begin at place p of s: those that are not there are wanting
abbrev pub cut_short : ℕ → List ℕ → ℕ → Refusal
cut_short k s p = Ended p (k - (length s - p))

-- the message ends inside k bytes that begin at p
pub record Cut (k : ℕ) (s : List ℕ) (p : ℕ) (r : Refusal) : Type 0 where
  pub is : r ≡ cut_short k s p
  pub short : length s - p < k
