-- Streams in several cuttings, worked out (docs/SCOPE.md, Records from a stream).
-- Assumes nothing.
use Rattle.std.specs.Prelude.{◌≡◌, refl, true, false, List, [], ◌∷◌, ℕ}
use Rattle.std.proofs.Common.{sym, subst, inl, inr}
use Rattle.std.proofs.Math.Option.{none, some}
use Rattle.xdr.specs.Meaning.Bytes.{Bytes}
use Rattle.xdr.specs.declared.refusal.Refusal.TheVariants.{Overrun}
use Rattle.rpcwire.specs.Meaning.Stream.{fresh, in_fragment, halted, feed_of, begin, advance, after, step_at, header_byte, headed, settled, fits_of}
use Rattle.rpcwire.specs.Meaning.Session.{Heard, Over, Equal, Function, Keeps, in_runs, hears, singly}
use Rattle.rpcwire.proofs.Session.{whatever-feeds}
use Rattle.worked.specs.EveryKind.{are_bytes}

-- what a function gives of a stream in runs of these lengths, from a fresh state, with a buffer of three bytes
abbrev buffer : List ℕ
buffer = 7 ∷ 7 ∷ 7 ∷ []

abbrev gives : Function → List ℕ → List ℕ → Heard
gives F cut s = hears F cut (fresh 3) buffer s

-- the stream rules give the same in each of these cuttings
abbrev InEach : List ℕ → List (List ℕ) → Heard → Type 0
InEach s [] h = Unit {0}
InEach s (cut ∷ cuts) h = (gives feed_of cut s ≡ h) × InEach s cuts h

-- every function that keeps the contract of `feed` gives the same, in every cutting that comes to the end or to the stop
abbrev InAll : List ℕ → Heard → Type 0
InAll s h = (F : Function) → Keeps F → (cut : List ℕ) → Over s (gives F cut s) → Equal (gives F cut s) h

-- the rules keep it themselves
rules_keep : Keeps feed_of
rules_keep s run d hb = record { is = refl; bytes = hb }

-- so what they give in one cutting is given in all
in_all : (s cut : List ℕ) (h : Heard) → Bytes s → gives feed_of cut s ≡ h → Over s h → InAll s h
in_all s cut h hb e o F keeps other over =
    subst (Equal (gives F other s)) e
    (whatever-feeds F feed_of keeps rules_keep s hb (fresh 3) buffer buffer refl refl other cut over (subst (Over s) (sym e) o))

-- AB and CD in two fragments, an empty record, and the first of three bytes of a fragment
abbrev stream : List ℕ
stream = 0 ∷ 0 ∷ 0 ∷ 1 ∷ 0xAB ∷ 0x80 ∷ 0 ∷ 0 ∷ 1 ∷ 0xCD ∷ 0x80 ∷ 0 ∷ 0 ∷ 0 ∷ 0 ∷ 0 ∷ 0 ∷ 3 ∷ 0x11 ∷ []

abbrev end : Heard
end =
    record {
      records = (0xAB ∷ 0xCD ∷ []) ∷ [] ∷ [];
      total = 19;
      stop = none;
      state = in_fragment 3 1 2 false;
      held = 0x11 ∷ 0xCD ∷ 7 ∷ [];
    }

-- whole, which takes three calls; by single bytes; with every header cut; and with empty runs
abbrev cuts : List (List ℕ)
cuts =
    (19 ∷ 19 ∷ 19 ∷ [])
    ∷ singly stream
    ∷ (2 ∷ 5 ∷ 5 ∷ 4 ∷ 9 ∷ [])
    ∷ (0 ∷ 4 ∷ 0 ∷ 3 ∷ 0 ∷ 0 ∷ 12 ∷ 7 ∷ 8 ∷ 0 ∷ [])
    ∷ []

pub worked_stream : InEach stream cuts end × Over stream end
unfolding in_runs feed_of begin advance after step_at header_byte headed settled fits_of
worked_stream = ((refl, (refl, (refl, (refl, tt)))), inl refl)

pub worked_stream_in_all : InAll stream end
worked_stream_in_all = in_all stream (19 ∷ 19 ∷ 19 ∷ []) end (are_bytes stream refl) worked_stream.0.0 worked_stream.1

-- a record of one byte, and a fragment of four: it stops after nine bytes, and the last two are not used however often they are fed
abbrev long : List ℕ
long = 0x80 ∷ 0 ∷ 0 ∷ 1 ∷ 0xEE ∷ 0x80 ∷ 0 ∷ 0 ∷ 4 ∷ 0x11 ∷ 0x22 ∷ []

abbrev stopped : Heard
stopped =
    record {
      records = (0xEE ∷ []) ∷ [];
      total = 9;
      stop = some (record { answer = Overrun; after = 9 });
      state = halted 3 0;
      held = 0xEE ∷ 7 ∷ 7 ∷ [];
    }

abbrev cuts_of_long : List (List ℕ)
cuts_of_long =
    (11 ∷ 11 ∷ [])
    ∷ singly long
    ∷ (3 ∷ 4 ∷ 2 ∷ 2 ∷ [])
    ∷ (8 ∷ 0 ∷ 3 ∷ 0 ∷ 6 ∷ 2 ∷ 2 ∷ [])
    ∷ []

pub worked_stop : InEach long cuts_of_long stopped × Over long stopped
unfolding in_runs feed_of begin advance after step_at header_byte headed settled fits_of
worked_stop = ((refl, (refl, (refl, (refl, tt)))), inr refl)

pub worked_stop_in_all : InAll long stopped
worked_stop_in_all = in_all long (11 ∷ 11 ∷ []) stopped (are_bytes long refl) worked_stop.0.0 worked_stop.1
