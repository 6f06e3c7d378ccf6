-- A format: a codec of messages, and its link to what the code holds of them. The combinators make both at once.
-- Assumes nothing.
use Rattle.std.specs.Prelude.{◌≡◌, Bool, true, false, List, [], ℕ}
use Rattle.std.proofs.Common.{sym, ap, ◌∙◌}
use Rattle.std.proofs.Math.Option.{Option}
use Rattle.xdr.specs.Meaning.Kind.{Codec}
use Rattle.xdr.specs.Meaning.Combinators.{Seen, means, View}
use Rattle.xdr.specs.Meaning.Codecs.{void, chain, view, seen, exact_view}
use Rattle.xdr.specs.Meaning.Items.{flag}
use Rattle.xdr.specs.Meaning.Held.{Held, then_first, then_mean, then_inside, then_marks, Holds, look_at, map_seen, Meant}
use Rattle.xdr.specs.Meaning.Combinators.{Exact}
use Rattle.xdr.specs.Meaning.Shapes.{If, to_option, from_option}
use Rattle.xdr.specs.Laws.Made.{from_to, to_from}
use Rattle.xdr.specs.Laws.Held.{plain-agrees, plain-kept, then_agrees, then-kept, view-agrees, view-kept}

pub record Format (M S : Type 0) : Type 1 where
  pub codec : Codec M
  pub held : Held codec S

-- no pieces: the code holds the message
abbrev pub plain : {M : Type 0} (C : Codec M) → Held C M
plain C =
    record { read = C.kind.read; mean = λ s m. m; inside = λ s m. true; marks = λ s m. []; agrees = plain-agrees C; kept = plain-kept C }

abbrev pub exactly : {M : Type 0} → Codec M → Format M M
exactly C = record { codec = C; held = plain C }

-- one after another
abbrev pub held_chain : {M S : Type 0} {N : M → Type 0} {T : S → Type 0} {A : Codec M} (B : (a : M) → Codec (N a)) (H : Held A S)
    (G : (s : List ℕ) (x : S) → Held (B (H.mean s x)) (T x)) → Held (chain A B) ((x : S) × T x)
held_chain B H G =
    record {
      read = λ s p. then_first B H G s (H.read s p);
      mean = then_mean B H G;
      inside = then_inside B H G;
      marks = then_marks B H G;
      agrees = then_agrees B H G;
      kept = then-kept B H G;
    }

infixr 20 ◌⨟◌
-- two in order
abbrev pub ◌⨟◌ : {M N S T : Type 0} → Format M S → Format N T → Format (M × N) (S × T)
F ⨟ G = record { codec = chain F.codec (λ a. G.codec); held = held_chain (λ a. G.codec) F.held (λ s x. G.held) }

-- seen as another
abbrev pub held_view : {M S N T : Type 0} {C : Codec M} (W : View M C.kind.Good N) (H : Held C S) → Holds H W.see T → Held (view C W) T
held_view W H U =
    record {
      read = λ s p. look_at U.holds p (H.read s p);
      mean = U.mean;
      inside = U.inside;
      marks = U.marks;
      agrees = view-agrees W H U;
      kept = view-kept W H U;
    }

-- a record on either side: a message under its own names, and a held value under those of the code
pub record Renaming (M N S T : Type 0) : Type 0 where
  pub to : M → N
  pub from : N → M
  pub from_to : (x : M) → from (to x) ≡ x
  pub to_from : (m : N) → to (from m) ≡ m
  pub hold : S → T
  pub pieces : T → S
  pub pieces_hold : (y : S) → pieces (hold y) ≡ y

module _ {M N S T : Type 0} (F : Format M S) (R : Renaming M N S T) where
  pub named_see_to : (m : N) → means (R.to (R.from m)) [] ≡ means m []
  named_see_to m = ap (λ z. means z []) (R.to_from m)

  pub named_square : (s : List ℕ) (y : S)
      → means (R.to (F.held.mean s y)) [] ≡ means (R.to (F.held.mean s (R.pieces (R.hold y)))) []
  named_square s y = ap (λ z. means (R.to (F.held.mean s z)) []) (sym (R.pieces_hold y))

  pub named_within : (s : List ℕ) (y : S) → F.held.inside s y ≡ true → F.held.inside s (R.pieces (R.hold y)) ≡ true
  named_within s y h = ap (F.held.inside s) (R.pieces_hold y) ∙ h

  abbrev pub named : Format N T
  named =
      record {
        codec = seen F.codec (λ x. means (R.to x) []) R.from R.from_to named_see_to;
        held =
            held_view (exact_view F.codec (λ x. means (R.to x) []) R.from R.from_to named_see_to) F.held
            (record {
              holds = λ y. means (R.hold y) [];
              mean = λ s y. R.to (F.held.mean s (R.pieces y));
              inside = λ s y. F.held.inside s (R.pieces y);
              marks = λ s y. F.held.marks s (R.pieces y);
              square = named_square;
              within = named_within;
            });
      }

-- a value that a flag says is there
abbrev pub if_format : {M S : Type 0} → Format M S → (b : Bool) → Format (If M b) (If S b)
if_format F true = F
if_format F false = exactly void

module _ {M S : Type 0} (F : Format M S) where
  abbrev pub flagged : Format ((b : Bool) × If M b) ((b : Bool) × If S b)
  flagged =
      record {
        codec = chain flag (λ b. (if_format F b).codec);
        held = held_chain (λ b. (if_format F b).codec) (plain flag) (λ s b. (if_format F b).held);
      }

  abbrev pub optional : Format (Option M) (Option S)
  optional =
      named flagged
      (record {
        to = λ x. to_option M x.0 x.1;
        from = from_option M;
        from_to = λ x. from_to M x.0 x.1;
        to_from = to_from M;
        hold = λ y. to_option S y.0 y.1;
        pieces = from_option S;
        pieces_hold = λ y. from_to S y.0 y.1;
      })

-- a union: a tag of any kind, and the format that the tag says
pub record Branch : Type 1 where
  pub Msg : Type 0
  pub Has : Type 0
  pub format : Format Msg Has

abbrev pub branch : {M S : Type 0} → Format M S → Branch
branch {M} {S} F = record { Msg = M; Has = S; format = F }

module _ {A : Type 0} (tags : Codec A) (branches : A → Branch) where
  abbrev pub tagged : Format ((tag : A) × (branches tag).Msg) ((tag : A) × (branches tag).Has)
  tagged =
      record {
        codec = chain tags (λ tag. (branches tag).format.codec);
        held = held_chain (λ tag. (branches tag).format.codec) (plain tags) (λ s tag. (branches tag).format.held);
      }

  -- where no branch has pieces: `see` names the message that a tag and what it says are, or the default that a stray tag is read as, or
  -- says that the tag is undeclared
  module _ {N : Type 0} (see : (tag : A) → (branches tag).Msg → Seen N) (to : N → (tag : A) × (branches tag).Msg) where
    -- what is seen with nothing loose is written so, and a default is in range
    abbrev pub Kept : Type 0
    Kept = (tag : A) (x : (branches tag).Msg) → Exact tagged.codec.kind.Good to (tag, x) (see tag x)

    -- each message is seen as itself in what it is written as
    abbrev pub Back : Type 0
    Back = (m : N) → see (to m).0 (to m).1 ≡ means m []

    abbrev pub union : Kept → Back → Codec N
    union kept back = seen tagged.codec (λ y. see y.0 y.1) to (λ y. kept y.0 y.1) back

  -- where one has: what each tag is seen as, in the message and in what is held
  pub record Choice (N T : Type 0) : Type 0 where
    pub see : (tag : A) → (branches tag).Msg → Seen N
    pub to : N → (tag : A) × (branches tag).Msg
    pub hold : (tag : A) → (branches tag).Has → Seen T
    pub mean : List ℕ → T → N
    pub inside : List ℕ → T → Bool
    pub marks : List ℕ → T → List Bool

  module _ {N T : Type 0} (U : Choice N T) where
    -- the laws of a choice, each by cases on the tag or the message
    pub record Lawfully : Type 0 where
      pub kept : Kept U.see U.to
      pub back : Back U.see U.to
      -- what is held means what is seen
      pub square : (s : List ℕ) (tag : A) (y : (branches tag).Has)
          → U.see tag ((branches tag).format.held.mean s y) ≡ map_seen (U.mean s) (U.hold tag y)
      pub within : (s : List ℕ) (tag : A) (y : (branches tag).Has) → (branches tag).format.held.inside s y ≡ true
          → Meant (λ z. U.inside s z ≡ true) (U.hold tag y)

    abbrev pub choice : Lawfully → Format N T
    choice L =
        record {
          codec = union U.see U.to L.kept L.back;
          held =
              held_view (exact_view tagged.codec (λ y. U.see y.0 y.1) U.to (λ y. L.kept y.0 y.1) L.back) tagged.held
              (record {
                holds = λ y. U.hold y.0 y.1;
                mean = U.mean;
                inside = U.inside;
                marks = U.marks;
                square = λ s y. L.square s y.0 y.1;
                within = λ s y h. L.within s y.0 y.1 h;
              });
        }
