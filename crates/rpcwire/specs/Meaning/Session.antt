-- A stream, fed in runs: what its feeds have given together, and that it is the same however the stream is cut.
-- Assumes nothing.
use Rattle.std.specs.Prelude.{◌≡◌, ◌↔◌, ◌⊎◌, true, false, ℕ, ◌+◌, ◌<◌, length, take, drop}
use Rattle.std.proofs.Math.Option.{Option, none, some}
use mathlib.Core.List.{List, [], ◌∷◌, ◌++◌, foldl}
use Rattle.xdr.specs.Meaning.Bytes.{Bytes}
use Rattle.xdr.specs.declared.refusal.Refusal.{Refusal}
use Rattle.xdr.specs.declared.refusal.Refusal.TheVariants.{Overrun}
use Rattle.rpcwire.specs.Meaning.Stream.{Said, more, complete, refused, Now, Feeds, fresh_of, made}
use Rattle.rpcwire.specs.Meaning.Promise.{used_said}
use Rattle.rpcwire.specs.declared.assembler.Assembler.{Assembler}

-- What has been heard.

-- a stop: the refusal, and the bytes used in all when it was first answered
pub record Stop : Type 0 where
  pub answer : Refusal
  pub after : ℕ

-- the whole records in order, the bytes used in all, the stop if there is one, and the state and the buffer to go on with
pub record Heard : Type 0 where
  pub records : List (List ℕ)
  pub total : ℕ
  pub stop : Option Stop
  pub state : Assembler
  pub held : List ℕ

-- before the first byte
abbrev pub unheard : Assembler → List ℕ → Heard
unheard a d = record { records = []; total = 0; stop = none; state = a; held = d }

-- the first refusal stays
abbrev pub first : Option Stop → Stop → Option Stop
first none x = some x
first (some y) x = some y

-- an answer is noted, with what the buffer then holds; a record's bytes are read when "complete" is answered
abbrev pub note : Heard → Said → List ℕ → Heard
note h (more s u) d = record { records = h.records; total = h.total + u; stop = h.stop; state = s; held = d }
note h (complete n s u) d = record { records = h.records ++ (take n d ∷ []); total = h.total + u; stop = h.stop; state = s; held = d }
note h (refused r s u) d =
    record { records = h.records; total = h.total + u; stop = first h.stop (record { answer = r; after = h.total + u }); state = s; held = d }

-- Feeding a stream.

-- one call of `feed`, as its caller saw it: the run and the buffer that were lent, the answer, and what the buffer then held
pub record Call : Type 0 where
  pub run : List ℕ
  pub lent : List ℕ
  pub said : Said
  pub left : List ℕ

abbrev pub note_call : Heard → Call → Heard
note_call h c = note h c.said c.left

abbrev pub heard : Heard → List Call → Heard
heard = foldl note_call

-- The next call, where s is what was not used yet of the stream. Its run begins there and has any length, none too. The buffer may be
-- another one, of the same length and with the bytes placed so far. The answer is any that the contract of `feed` permits
pub record Next (h : Heard) (s : List ℕ) (c : Call) : Type 0 where
  pub rest : List ℕ
  pub run : s ≡ c.run ++ rest
  pub placed : take h.state.placed c.lent ≡ take h.state.placed h.held
  pub long : length c.lent ≡ length h.held
  pub answers : Feeds h.state c.run c.lent c.said c.left

-- the calls feed the stream s, one after another; what was not used is fed again
abbrev pub Calls : Heard → List ℕ → List Call → Type 0
Calls h s [] = Unit {0}
Calls h s (c ∷ cs) = Next h s c × Calls (note_call h c) (drop (used_said c.said) s) cs

-- all of the stream is used, or the assembler is stopped
abbrev pub Over : List ℕ → Heard → Type 0
Over s h = (h.total ≡ length s) ⊎ (h.state.stopped ≡ true)

-- What is promised.

-- the same was heard: the same records, the same total, the same stop, the same state, and the same bytes so far of the record that goes on
pub record Equal (h g : Heard) : Type 0 where
  pub records : h.records ≡ g.records
  pub total : h.total ≡ g.total
  pub stop : h.stop ≡ g.stop
  pub state : h.state ≡ g.state
  pub seen : take h.state.placed h.held ≡ take h.state.placed g.held
  pub long : length h.held ≡ length g.held

-- one stream s, one state a that is fresh for buffers of d's length, and one way of feeding it
pub record Way (s : List ℕ) (a : Assembler) (d : List ℕ) (cs : List Call) : Type 0 where
  pub bytes : Bytes s
  pub fresh : fresh_of (length d) ≡ made a
  pub calls : Calls (unheard a d) s cs

-- answer 7, after n bytes in all
abbrev pub StopsAfter : ℕ → Heard → Type 0
StopsAfter n h = h.stop ≡ some (record { answer = Overrun; after = n })

-- two ways, into buffers of one length, whatever these held before
module _ (s : List ℕ) (a : Assembler) (d e : List ℕ) (xs ys : List Call) where
  -- to the end of the stream or to the stop
  abbrev pub HoweverCut : Type 0
  HoweverCut =
      Way s a d xs → Way s a e ys → length d ≡ length e → Over s (heard (unheard a d) xs) → Over s (heard (unheard a e) ys)
      → Equal (heard (unheard a d) xs) (heard (unheard a e) ys)

  -- on the way there: what was heard depends on how much was used, and on nothing else
  abbrev pub OnTheWay : Type 0
  OnTheWay =
      Way s a d xs → Way s a e ys → length d ≡ length e → (heard (unheard a d) xs).total ≡ (heard (unheard a e) ys).total
      → Equal (heard (unheard a d) xs) (heard (unheard a e) ys)

  -- the stop by itself: one way is answered 7 after n bytes exactly if the other is
  abbrev pub SameStop : Type 0
  SameStop =
      Way s a d xs → Way s a e ys → length d ≡ length e → Over s (heard (unheard a d) xs) → Over s (heard (unheard a e) ys)
      → (n : ℕ) → StopsAfter n (heard (unheard a d) xs) ↔ StopsAfter n (heard (unheard a e) ys)

-- of what was heard in any way
pub record Stopping (h : Heard) : Type 0 where
  -- no refusal but 7 is answered, it stops the assembler, and no byte was used after it
  pub none_yet : h.state.stopped ≡ false → h.stop ≡ none
  pub stop : h.state.stopped ≡ true → StopsAfter h.total h
  -- every later call is answered 7 again, uses no byte, and leaves its buffer as it is
  pub stays : h.state.stopped ≡ true → {s : List ℕ} {c : Call} → Next h s c → (c.said ≡ refused Overrun h.state 0) × (c.left ≡ c.lent)
  -- until then every call that is lent a byte uses one; so whoever feeds again what was not used comes to the end
  pub goes_on : h.state.stopped ≡ false → {s : List ℕ} {c : Call} → Next h s c → 0 < length c.run → 0 < used_said c.said

-- Ways that can be worked out: a function with the contract of `feed`, and the lengths of its runs.

abbrev pub Function : Type 0
Function = Assembler → (run buffer : List ℕ) → Now

abbrev pub Keeps : Function → Type 0
Keeps F = (s : Assembler) (run d : List ℕ) → Bytes run → Feeds s run d (F s run d).said (F s run d).held

-- one call, with the buffer as it is
abbrev pub call_of : Function → Heard → List ℕ → Call
call_of F h run = record { run = run; lent = h.held; said = (F h.state run h.held).said; left = (F h.state run h.held).held }

-- runs of these lengths, each from the first byte that was not used yet
unfoldable pub in_runs : Function → List ℕ → Heard → List ℕ → List Call
in_runs F [] h s = []
in_runs F (n ∷ ns) h s =
    call_of F h (take n s) ∷ in_runs F ns (note_call h (call_of F h (take n s))) (drop (used_said (call_of F h (take n s)).said) s)

-- what such a function has given by then
abbrev pub hears : Function → List ℕ → Assembler → (buffer stream : List ℕ) → Heard
hears F ns a d s = heard (unheard a d) (in_runs F ns (unheard a d) s)

-- so any two functions that keep the contract give the same, in runs of whatever lengths
abbrev pub WhateverFeeds : Function → Function → Type 0
WhateverFeeds F G =
    Keeps F → Keeps G → (s : List ℕ) → Bytes s → (a : Assembler) (d e : List ℕ) → fresh_of (length d) ≡ made a → length d ≡ length e
    → (ns ms : List ℕ) → Over s (hears F ns a d s) → Over s (hears G ms a e s) → Equal (hears F ns a d s) (hears G ms a e s)

-- single bytes
abbrev pub singly : List ℕ → List ℕ
singly [] = []
singly (b ∷ bs) = 1 ∷ singly bs

-- and every stream has such a way, to its end or to the stop
abbrev pub ByteByByte : Function → Type 0
ByteByByte F = Keeps F → (s : List ℕ) → Bytes s → (a : Assembler) (d : List ℕ) → fresh_of (length d) ≡ made a → Over s (hears F (singly s) a d s)
