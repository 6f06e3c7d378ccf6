-- The items of XDR (RFC 4506, section 4), with the crate's tolerances 1 and 2: each nonzero flag is true, and padding may hold anything.
-- Assumes nothing.
use Rattle.std.specs.Prelude.{◌≡◌, refl, Bool, true, false, cond, List, [], ◌∷◌, ℕ, zero, suc, ◌+◌, ◌*◌, ◌^◌, ◌<◌, ℤ, length, replicate}
use Rattle.std.proofs.Math.Option.{Option}
use Rattle.xdr.specs.Meaning.Bytes.{Bytes, value, digits, padding, zeros, signed, unsigned, InHalf}
use Rattle.xdr.specs.Meaning.Refusal.{Cut}
use Rattle.xdr.specs.Meaning.Answer.{odd_flag, dirty_pad}
use Rattle.xdr.specs.Meaning.Kind.{Codec}
use Rattle.xdr.specs.Meaning.Combinators.{Raw, Seen, means, Takes, item_kind}
use Rattle.xdr.specs.Meaning.Codecs.{block, void, chain, view, run, seen, ◌⨾◌, mapped, times}
use Rattle.xdr.specs.Meaning.Combinators.{Exact, among}
use Rattle.xdr.specs.Laws.Exact.{among-exact}
use Rattle.xdr.specs.Meaning.Shapes.{If, to_option, from_option, to_list, from_list}
use Rattle.xdr.specs.Laws.Made.{from_to, to_from, list-from-to, list-to-from}
use Rattle.xdr.specs.Laws.Items as laws
use Rattle.xdr.specs.Laws.Takes as takes
use Rattle.xdr.specs.Laws.Item.{item-lawful}
use Rattle.xdr.specs.declared.refusal.Refusal.{Refusal}

-- a number of k bytes, the most significant first
unfoldable pub number : ℕ → Codec ℕ
number k =
    view (block k)
    (record {
      Good = λ n. n < 256 ^ k;
      see = λ l. means (value l) [];
      to = digits k;
      faithful = laws.number-faithful k;
      to_good = laws.number-to-good k;
      see_to = laws.number-see-to k;
    })

unfoldable pub word : Codec ℕ
unfolding number
word = number 4

unfoldable pub hyper : Codec ℕ
unfolding number
hyper = number 8

-- two that stand together
unfoldable pub word_pair : Codec (ℕ × ℕ)
word_pair = word ⨾ word

unfoldable pub hyper_pair : Codec (ℕ × ℕ)
hyper_pair = hyper ⨾ hyper

-- a flag: 0 is false, 1 is true, and any other word is true too, but loose
abbrev pub see_flag : ℕ → Seen Bool
see_flag zero = means false []
see_flag (suc zero) = means true []
see_flag (suc (suc n)) = means true (odd_flag ∷ [])

abbrev pub from_flag : Bool → ℕ
from_flag false = 0
from_flag true = 1

pub flag_exact : (n : ℕ) → Exact word.kind.Good from_flag n (see_flag n)
unfolding word number
flag_exact zero = refl
flag_exact (suc zero) = refl
flag_exact (suc (suc n)) = laws.one-fits

pub flag_see_to : (b : Bool) → see_flag (from_flag b) ≡ means b []
flag_see_to true = refl
flag_see_to false = refl

unfoldable pub flag : Codec Bool
flag = seen word see_flag from_flag flag_exact flag_see_to

-- two's complement in k bytes
abbrev pub integer : (k h : ℕ) → h + h ≡ 256 ^ k → Codec ℤ
unfolding number
integer k h e =
    view (number k)
    (record {
      Good = InHalf h;
      see = λ n. means (signed h n) [];
      to = unsigned h;
      faithful = laws.signed-faithful h (256 ^ k) e;
      to_good = laws.signed-to-good h (256 ^ k) e;
      see_to = laws.signed-see-to h;
    })

unfoldable pub int : Codec ℤ
int = integer 4 2147483648 refl

unfoldable pub long : Codec ℤ
long = integer 8 9223372036854775808 refl

-- eight bytes as they stand
unfoldable pub eight : Codec (List ℕ)
unfolding number hyper
eight =
    view hyper
    (record {
      Good = Raw 8;
      see = λ n. means (digits 8 n) [];
      to = value;
      faithful = laws.eight-faithful;
      to_good = laws.eight-to-good;
      see_to = laws.eight-see-to;
    })

-- the same, known by the number that they write: they are read and written as a hyper is (`eight_is`, `eight-bytes`)
abbrev pub verifier : Codec ℕ
verifier = hyper

-- k bytes of padding: written as zeros, read whatever they hold, and loose if they hold anything else
abbrev pub see_pad : List ℕ → Seen (Unit {0})
see_pad l = means tt (cond (zeros l) [] (dirty_pad ∷ []))

abbrev pub pad : ℕ → Codec (Unit {0})
pad k =
    view (block k)
    (record {
      Good = λ u. Unit {0};
      see = see_pad;
      to = λ u. replicate k 0;
      faithful = laws.pad-faithful k;
      to_good = laws.pad-to-good k;
      see_to = laws.pad-see-to k;
    })

-- a word is four bytes, and is cut short as they are
pub word_takes : Takes 4 word.kind
unfolding word number
word_takes = takes.view-takes _ _ (λ l. takes.seen) (takes.block-takes 4)

pub word_cut : (s : List ℕ) (p : ℕ) (r : Refusal) → word.kind.Fault s p r → Cut 4 s p r
unfolding word number
word_cut = takes.view-cut _ _ (λ l. takes.seen)

-- a number n, and what takes `size n` bytes, as one run of them: one item
abbrev pub counted : {N : ℕ → Type 0} (size : ℕ → ℕ) (C : (n : ℕ) → Codec (N n)) → ((n : ℕ) → Takes (size n) (C n).kind) → Codec ((n : ℕ) × N n)
counted size C T =
    record {
      kind = item_kind (chain word (λ n. run (size n) (C n) (T n))).kind;
      laws = item-lawful word.kind (λ n. (C n).kind) size word.laws word_takes word_cut (λ n. (C n).laws) T;
    }

pub body_takes : (n : ℕ) → Takes (n + padding n) (block n ⨾ pad (padding n)).kind
body_takes n = takes.pair-takes _ _ (takes.block-takes n) (takes.view-takes _ _ (λ l. takes.seen) (takes.block-takes (padding n)))

-- opaque bytes: their number, they themselves, and padding
unfoldable pub opaque : Codec (List ℕ)
unfolding word number
opaque =
    view (counted (λ n. n + padding n) (λ n. block n ⨾ pad (padding n)) body_takes)
    (record {
      Good = λ l. word.kind.Good (length l) × Bytes l;
      see = λ x. means x.1.0 [];
      to = λ l. (length l, (l, tt));
      faithful = laws.opaque-faithful;
      to_good = laws.opaque-to-good;
      see_to = λ l g. refl;
    })

-- a list of words: how many, and they themselves
unfoldable pub words : Codec (List ℕ)
words =
    mapped (counted (λ n. n * 4) (times word) (takes.times-take word word_takes)) (λ x. to_list ℕ x.0 x.1) (from_list ℕ)
    (λ x. list-from-to ℕ x.0 x.1) (list-to-from ℕ)

-- a closed enumeration: a word that is the number of one of a list of values; any other is undeclared
abbrev pub closed : {A : Type 0} (number : A → ℕ) (l : List A) → ((a : A) → among number l (number a) ≡ means a []) → Codec A
closed number l each = seen word (among number l) number (among-exact word.kind.Good number l) each

-- a value that a flag says is there
abbrev pub if : {M : Type 0} → Codec M → (b : Bool) → Codec (If M b)
if C true = C
if C false = void

abbrev pub option : {M : Type 0} → Codec M → Codec (Option M)
option {M} C =
    mapped (chain flag (if C)) (λ x. to_option M x.0 x.1) (from_option M) (λ x. from_to M x.0 x.1) (to_from M)
